use Rattle.std.proofs.Common.{◌≡◌, ◌≤◌, drop, length}
use Rattle.cx_plan.specs.Names.{last_bracket}
use Rattle.cx_plan.proofs.names.last_bracket.Given as goal

abbrev pub invariant-bytes : goal.invariant-bytes
invariant-bytes l =
    (last_bracket l.place l.k (drop l.k l.full) ≡ last_bracket (length l.full) 0 l.full)
    × (l.place ≤ length l.full)
