-- The needs of a run by its operations.
use Rattle.std.specs.Prelude.{ℕ, zero, suc, ◌≤◌, List}
use Rattle.cx_plan.specs.Setups.{Setup}
use Rattle.cx_plan.specs.Regions.{Flags, cleared}
use Rattle.cx_rule.specs.Routine.{Rule}
use Rattle.cx_model.specs.States.{State}
use Rattle.cx_model.specs.Courses.{Note}
use Rattle.cx_flat.specs.Code.{op_at, code}
use Rattle.cx_flat.specs.Flats.{Flat, stepped, notes_at, first_flat, flat_after}
use Rattle.cx_model.specs.Needs.{notes_leave, NotesMet, all_set}

-- control and state before operation n, what it notes, and the flags before it
abbrev pub flat_at : Setup → List Rule → Flat → ℕ → Flat
flat_at setup rules first zero = first
flat_at setup rules first (suc n) =
    stepped setup rules (op_at (code setup) (flat_at setup rules first n).control.pc)
    (flat_at setup rules first n)

abbrev pub notes_of : Setup → List Rule → Flat → List Note
notes_of setup rules g = notes_at setup rules (op_at (code setup) g.control.pc) g.control g.state

abbrev pub flags_at : Setup → List Rule → Flat → Flags → ℕ → Flags
flags_at setup rules first flags zero = flags
flags_at setup rules first flags (suc n) =
    notes_leave setup (notes_of setup rules (flat_at setup rules first n))
    (flags_at setup rules first flags n)

-- each need of each operation is met by the flags before it, from the start, and from a state of a
-- checkpoint place by flags that are all set
pub record OperationsMet (setup : Setup) (rules : List Rule) : Type 0 where
  pub whole : (n : ℕ)
      → NotesMet setup (flags_at setup rules (first_flat setup) cleared n)
      (notes_of setup rules (flat_at setup rules (first_flat setup) n))
  pub from_whole_state : (c : ℕ) (state : State) → c ≤ setup.itlast → (n : ℕ)
      → NotesMet setup (flags_at setup rules (flat_after setup c state) all_set n)
      (notes_of setup rules (flat_at setup rules (flat_after setup c state) n))
