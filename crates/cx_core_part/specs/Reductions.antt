-- What a part gives for a reduction, and what the number of all parts leaves.
use Rattle.std.specs.Prelude.{◌≡◌, ℤ, Some, None, Result, Ok, Err}
use Rattle.cx_plan.specs.declared.item.Item.{Item}
use Rattle.cx_plan.specs.Setups.{Setup}
use Rattle.cx_rule.specs.States.{State}
use Rattle.cx_rule.specs.declared.routine.Overflow.{Overflow}
use Rattle.law_parts.specs.Holding.{join_turn}

-- At Ok the item's scalar has the number. Overflow comes exactly where it leaves the scalar's type;
-- then nothing has changed.
abbrev pub Joins : Setup → Item → ℤ → (old new : State) → Result (Unit {0}) Overflow → Type 0
Joins setup x number old new (Ok _) = join_turn setup x old number ≡ Some new
Joins setup x number old new (Err _) = (join_turn setup x old number ≡ None) × (new ≡ old)
