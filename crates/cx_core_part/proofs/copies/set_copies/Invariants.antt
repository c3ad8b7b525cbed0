use Rattle.std.proofs.Common.{◌≡◌, ℕ}
use Rattle.cx_core_part.specs.Copies.{copies_of}
use Rattle.cx_core_part.proofs.CopyLaws.{set_to}
use Rattle.cx_core_part.proofs.copies.set_copies.Given as goal

-- the copies of the first items are set
abbrev pub invariant-items : goal.invariant-items
invariant-items l =
    (m : ℕ) × (l.fn.copies ≡ copies_of l.steers l.items m)
    × (l.copies ≡ set_to l.steers l.items m l.iteration l.k)
