-- What an item's turn does to the numbers of a part.
use Rattle.std.specs.Prelude.{ℕ, ◌≡◌, List, Option, Some, None, Result, Ok, Err}
use Rattle.cx_plan.specs.declared.item.Item.{Item}
use Rattle.cx_plan.specs.Steering.{item_at}
use Rattle.cx_rule.specs.Jobs.{HasRoutine}
use Rattle.cx_rule.specs.Meter.{raised}
use Rattle.cx_rule.specs.States.{State}
use Rattle.cx_rule.specs.declared.routine.Overflow.{Overflow}
use Rattle.cx_rule.specs.declared.spec.Spec.{Spec}
use Rattle.cx_field.specs.Patches.{PatchValue}
use Rattle.cx_field.specs.Sweeps.{CanSweep, RoseWithin}
use Rattle.cx_flat.specs.declared.op.Op.{Op}
use Rattle.cx_flat.specs.declared.op.Op.TheVariants.{Sweep, Apply}
use Rattle.law_parts.specs.Holding.{part_sweep, part_rule}
use Rattle.law_parts.specs.Runs.{Run, cut_of}
use Rattle.law_parts.specs.Nets.{points_of}

-- the numbers of part k after the turn of an item; none where it meets Overflow
abbrev pub computed : Run → ℕ → Op → State → ℕ → Option State
computed r k (Sweep i) numbers iteration =
    part_sweep r.setup r.rules (cut_of r) k (item_at r.setup i iteration) numbers iteration
computed r k (Apply i) numbers iteration =
    part_rule r.setup r.rules (item_at r.setup i iteration) numbers iteration
computed r k _ numbers iteration = Some numbers

-- At Ok the part has these numbers, and the meter rose by the points that the part computes.
-- Overflow comes exactly where there are none; then no number has changed.
abbrev pub Computes : Run → ℕ → Op → ℕ → (old new : State) → (before after : ℕ)
    → Result (Unit {0}) Overflow → Type 0
Computes r k o iteration old new before after (Ok _) =
    (computed r k o old iteration ≡ Some new) × (after ≡ raised before (points_of r k o))
Computes r k o iteration old new before after (Err _) =
    (computed r k o old iteration ≡ None) × (new ≡ old) × RoseWithin (points_of r k o) before after

-- an item has its object, and can be swept with it
pub record CanTurn (specs : List Spec) (x : Item) (p : PatchValue) : Type 0 where
  pub routine : HasRoutine specs x
  pub sweep : CanSweep routine.spec x p
