-- no item that was passed lacks a shape
use Rattle.std.proofs.Common.{◌≡◌, ℕ, ◌<◌, false}
use Rattle.cx_plan.specs.Setups.{setup_of}
use Rattle.cx_region.specs.Shapes.{lacks_shape}
use Rattle.cx_region.proofs.check_shapes.first_shapeless.Given as goal

abbrev pub invariant-items : goal.invariant-items
invariant-items l = (k : ℕ) → k < l.number → lacks_shape (setup_of l.job) k ≡ false
