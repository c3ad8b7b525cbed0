-- each direction that was passed is wide enough
use Rattle.std.proofs.Common.{◌≡◌, ℕ, pos, ◌<◌, int_le, true}
use Rattle.cx_grid.specs.Boxes.{along}
use Rattle.cx_region_flags.proofs.shapes.within_ghosts.Given as goal

abbrev pub invariant-loop-direction : goal.invariant-loop-direction
invariant-loop-direction l = (d : ℕ) → d < l.direction
    → int_le (pos l.reach) (along l.shape.ghost_ d) ≡ true
