-- What the operations of a run have to do with the undivided run.
use Rattle.std.specs.Prelude.{◌≡◌, ℕ, ◌≤◌, true, List, None}
use Rattle.cx_plan.specs.Setups.{Setup}
use Rattle.cx_rule.specs.Routine.{Rule}
use Rattle.cx_model.specs.States.{State}
use Rattle.cx_model.specs.Traces.{Trace}
use Rattle.cx_model.specs.Runs.{Lengths, no_lengths, limited, undivided_run, continued_run}
use Rattle.cx_flat.specs.declared.op.Op.TheVariants.{Halt}
use Rattle.cx_model.specs.Courses.{Note, cut}
use Rattle.cx_flat.specs.Code.{code, op_at}
use Rattle.cx_flat.specs.Flats.{Flat, flat_from, noted_from, is_halt, GoesOn, InPairs, first_flat, flat_after}

-- the operations come to the last one after so many, and what they note up to the first end, within
-- the limit of the output, is a run
pub record RunsAs (setup : Setup) (rules : List Rule) (first : Flat) (so_far : Lengths)
    (run : Trace) : Type 0 where
  pub count : ℕ
  pub goes_on : GoesOn setup rules (code setup) count first
  pub paired : InPairs setup rules (code setup) None None count first
  pub halts : is_halt (op_at (code setup)
      (flat_from setup rules (code setup) count first).control.pc) ≡ true
  pub run_is : run ≡ limited so_far
      (cut (noted_from setup rules (code setup) count first)
      (flat_from setup rules (code setup) count first).state)

-- the undivided run, and each run that is continued from a checkpoint place
pub record FlatIsRun (setup : Setup) (rules : List Rule) : Type 0 where
  pub undivided : RunsAs setup rules (first_flat setup) no_lengths (undivided_run setup rules)
  pub continued : (c : ℕ) (state : State) (so_far : Lengths) → c ≤ setup.itlast
      → RunsAs setup rules (flat_after setup c state) so_far
      (continued_run setup rules c state so_far)

-- the operations come to the last one after so many, and note just these
pub record NotesAs (setup : Setup) (rules : List Rule) (first : Flat)
    (notes : List Note) : Type 0 where
  pub count : ℕ
  pub noted : noted_from setup rules (code setup) count first ≡ notes
  pub stops : op_at (code setup) (flat_from setup rules (code setup) count first).control.pc ≡ Halt
