-- A core as contracts see it.
use Rattle.std.specs.Prelude.{ℕ, Bool, List, map, length, Option, None, Some, slice_get}
use Rattle.cx_plan.specs.declared.variable.VarId.{VarId}
use Rattle.cx_plan.specs.Setups.{Setup}
use Rattle.cx_model.specs.declared.ends.End.{End}
use Rattle.cx_model.specs.declared.ends.End.TheVariants as ends
use Rattle.cx_field.specs.Patches.{PatchValue}
use Rattle.cx_core_buffers.specs.Boards.{Given}
use Rattle.cx_core_buffers.specs.Gathering.{Buffers}
use Rattle.cx_core_events.specs.declared.standing.Standing.{Standing}
use Rattle.cx_core_events.specs.Events.{events, lies_ahead}
use Rattle.cx_core_events.specs.Paces.{Paces}
use Rattle.cx_core_part.specs.Copies.{Copies, copies_at}
use Rattle.cx_core.specs.declared.answers.Outcome.{Outcome}
use Rattle.cx_core.specs.declared.answers.Outcome.TheVariants.{Done, Overflow, WhileLimit, OutputLimit}

-- Where the parts stand, their patches and their items, the numbers that they have given for
-- reductions, the writer's buffers, the end that the least of the parts that met one has met, how
-- the run has ended, how long each output is, by the variables that are written, and the variable
-- whose text came last.
pub record Cores : Type 0 where
  pub pace : Paces
  pub patches : List PatchValue
  pub items : List Copies
  pub given : Given
  pub buffers : Buffers
  pub met : Outcome
  pub outcome : Outcome
  pub lengths : List ℕ
  pub section : VarId

-- each part's items, with their parameters in the iteration that it is in
abbrev pub items_in : Setup → Standing → Copies
items_in setup s = copies_at setup s.place.iteration

abbrev pub items_of : Setup → Paces → List Copies
items_of setup p = map (items_in setup) p.parts

-- the outcome of an end, and of none
abbrev pub outcome_of : Option End → Outcome
outcome_of None = Done
outcome_of (Some ends.Done) = Done
outcome_of (Some (ends.Overflow iteration path)) = Overflow iteration path
outcome_of (Some (ends.WhileLimit iteration path)) = WhileLimit iteration path
outcome_of (Some (ends.OutputLimit iteration)) = OutputLimit iteration

-- how many events can happen, and whether that of a number is the operation of a part that has
-- handed in its piece of a checkpoint which isn't done
abbrev pub enabled_in : Cores → ℕ
enabled_in core = length (events core.pace)

abbrev pub ahead_in : Cores → ℕ → Bool
ahead_in core k = lies_ahead core.pace (slice_get (events core.pace) k)
