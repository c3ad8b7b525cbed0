use Rattle.std.proofs.Common.{◌≡◌, map}
use Rattle.std.specs.List.{range_with_len}
use Rattle.cx_core_part.specs.Copies.{copy_of}
use Rattle.cx_core_part.proofs.copies.first_copies.Given as goal

-- the first items have their copies
abbrev pub invariant-items : goal.invariant-items
invariant-items l = l.copies.items
    ≡ map (copy_of l.steers l.items l.iteration) (range_with_len 0 l.k)
