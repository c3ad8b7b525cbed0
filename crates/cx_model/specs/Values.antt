-- Laws of values: what is done from states that agree, and which states a run has.
use Rattle.std.specs.Prelude.{ℕ, ◌≡◌, ◌<◌, true, false, Contains, List, length, All}
use Rattle.cx_grid.specs.declared.boxes.Point.{Point}
use Rattle.cx_grid.specs.Boxes.{IsIn}
use Rattle.cx_grid.specs.Grid.{whole}
use Rattle.cx_plan.specs.declared.variable.VarId.{VarId}
use Rattle.cx_plan.specs.declared.item.Touch.{Touch}
use Rattle.cx_plan.specs.declared.item.ItemKind.TheVariants.{Cell}
use Rattle.cx_plan.specs.declared.flag.Flag.TheVariants.{S}
use Rattle.cx_plan.specs.Setups.{Setup}
use Rattle.cx_plan.specs.Lookups.{item, is_scalar}
use Rattle.cx_plan.specs.Steering.{item_at}
use Rattle.cx_plan.specs.Regions.{Flags, Turns, Syncs, Tests, Rotates, cleared, has_shape, region_of, needs, leaves, output_needs}
use Rattle.cx_rule.specs.Routine.{Rule}
use Rattle.cx_rule.specs.States.{State, scalar_of, rotate}
use Rattle.cx_model.specs.States.{IsState, start}
use Rattle.cx_rule.specs.Sweeps.{in_region, window_point}
use Rattle.cx_model.specs.Turns.{turn}
use Rattle.cx_model.specs.Traces.{Entry, Turned, Overflowed, Exchanged, Tested, Rotated, Wrote, Saved}
use Rattle.cx_model.specs.Runs.{text_of, Lengths, continued_run, Reaches}
use Rattle.cx_model.specs.Uses.{entries_leave}
use Rattle.cx_model.specs.Agreement.{Agree, AgreeOrNone, IsWindowTold, Met}
use Rattle.cx_model.specs.Alike.{SameRun, run_from}
use Rattle.cx_model.specs.Checkpoints.{ReachesFrom}

-- Two states that agree for some flags lead, by any step whose needs these flags meet, to states
-- that agree for the flags that the step leaves; an item gives none both times or a state both
-- times, a test finds the same, a text is the same.
pub record StepsAgree (setup : Setup) (rules : List Rule) : Type 0 where
  pub turns : (k iteration : ℕ) (flags : Flags) (a b : State)
      → k < length setup.items → has_shape setup (item setup k) ≡ true
      → Agree setup flags a b → Met setup flags (needs setup (Turns k))
      → AgreeOrNone setup (leaves setup (Turns k) flags)
      (turn setup rules (item_at setup k iteration) a iteration)
      (turn setup rules (item_at setup k iteration) b iteration)
  -- what a met Cell item sees is told, point by point, and beyond the point itself only where G is
  -- set
  pub windows : (k : ℕ) (flags : Flags) (r : Touch)
      → k < length setup.items → has_shape setup (item setup k) ≡ true → (item setup k).kind ≡ Cell
      → Contains (item setup k).reads r → is_scalar setup r.var ≡ false
      → Met setup flags (needs setup (Turns k))
      → (p : Point) → IsIn (whole setup.shape) p
      → in_region setup.shape (region_of (item setup k).writes) p ≡ true
      → IsWindowTold setup flags p (window_point setup.shape (region_of (item setup k).writes) p) r
  -- so is each scalar that a met item reads
  pub scalars : (k : ℕ) (flags : Flags) (r : Touch)
      → k < length setup.items → has_shape setup (item setup k) ≡ true
      → Contains (item setup k).reads r → is_scalar setup r.var ≡ true
      → Met setup flags (needs setup (Turns k))
      → flags r.var r.level S ≡ true
  pub exchanges : (vars : List VarId) (path : List ℕ) (flags : Flags) (a b : State)
      → Agree setup flags a b → Agree setup (leaves setup (Syncs vars path) flags) a b
  pub rotations : (flags : Flags) (a b : State)
      → Agree setup flags a b → Agree setup (leaves setup Rotates flags) (rotate a) (rotate b)
  pub tests : (v : VarId) (path : List ℕ) (flags : Flags) (a b : State)
      → is_scalar setup v ≡ true → Agree setup flags a b
      → Met setup flags (needs setup (Tests v path))
      → scalar_of a v ≡ scalar_of b v
  pub texts : (v : VarId) (iteration : ℕ) (flags : Flags) (a b : State)
      → Agree setup flags a b → Met setup flags (output_needs setup v)
      → text_of setup iteration a v ≡ text_of setup iteration b v

-- a run that is continued from a checkpoint place does the same from each state that agrees there
-- for the flags left
abbrev pub NeedsOnlyTold : Setup → List Rule → Type 0
NeedsOnlyTold setup rules =
    (c : ℕ) (state other : State) (so_far : Lengths) (r : Reaches setup rules c state so_far)
    → Agree setup (entries_leave setup r.earlier cleared) state other
    → SameRun setup (continued_run setup rules c state so_far)
    (continued_run setup rules c other so_far)

-- the state before an entry
abbrev pub state_before : Entry → State
state_before (Turned k iteration state) = state
state_before (Overflowed k iteration state) = state
state_before (Exchanged vars path state) = state
state_before (Tested v path state) = state
state_before (Rotated state) = state
state_before (Wrote v iteration text state) = state
state_before (Saved iteration state) = state

-- the undivided run begins in a whole state; the states of a run that begins in a whole one are
-- whole, those at checkpoint places among them
pub record KeepsStates (setup : Setup) (rules : List Rule) : Type 0 where
  pub begins : IsState setup (start setup)
  pub run : (first : State) → IsState setup first
      → All (λ e. IsState setup (state_before e)) (run_from setup rules first).entries
  pub continued : (c : ℕ) (state : State) (so_far : Lengths) → IsState setup state
      → All (λ e. IsState setup (state_before e)) (continued_run setup rules c state so_far).entries
  pub reached : (c : ℕ) (state : State) (so_far : Lengths) → Reaches setup rules c state so_far
      → IsState setup state
  pub reached_later : (c : ℕ) (state : State) (so_far : Lengths) (d : ℕ) (now : State)
      (written : Lengths)
      → IsState setup state → ReachesFrom setup rules c state so_far d now written
      → IsState setup now
