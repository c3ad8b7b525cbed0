-- The records of a run: what is read of its outputs.
use Rattle.std.specs.Prelude.{ℕ, ◌==◌, List, [], ◌∷◌, Some, if◌then◌else◌}
use Rattle.std.specs.List.{flat_map}
use Rattle.cx_plan.specs.declared.variable.VarId.{VarId}
use Rattle.cx_plan.specs.Setups.{Setup}
use Rattle.cx_plan.specs.Lookups.{variable, is_scalar}
use Rattle.cx_rule.specs.Routine.{Rule}
use Rattle.cx_rule.specs.States.{State, level_of, scalar_of}
use Rattle.cx_model.specs.Traces.{Entry, Wrote}
use Rattle.cx_model.specs.Runs.{undivided_run, output, old_output}
use Rattle.cx_ascii_read.specs.declared.record.Record.{Record}
use Rattle.cx_ascii_read.specs.Records.{ReadsAs}
use Rattle.cx_ascii_read.specs.Printed.{level_record, value_record}

-- a variable's record in an iteration: a scalar's value, or the current level of a grid variable
abbrev pub record_of : Setup → ℕ → State → VarId → Record
record_of setup iteration state v =
    if is_scalar setup v
    then value_record (variable setup v).full iteration (scalar_of state v)
    else level_record (variable setup v).full iteration setup.shape (level_of state v 0)

-- a text that is written is one record, and nothing else is
abbrev pub records_added : Setup → Entry → List Record
records_added setup (Wrote v iteration text state) = record_of setup iteration state v ∷ []
records_added setup _ = []

-- the same of one variable alone
abbrev pub records_to : Setup → VarId → Entry → List Record
records_to setup v (Wrote w iteration text state) =
    if w.0 == v.0 then record_of setup iteration state w ∷ [] else []
records_to setup v _ = []

-- the records of a variable in some entries, and all of them, in their order
abbrev pub records_of : Setup → VarId → List Entry → List Record
records_of setup v entries = flat_map (records_to setup v) entries

abbrev pub former_records : Setup → List Entry → List Record
former_records setup entries = flat_map (records_added setup) entries

-- the undivided run's records of a variable, and all of them
abbrev pub run_records : Setup → List Rule → VarId → List Record
run_records setup rules v = records_of setup v (undivided_run setup rules).entries

abbrev pub all_run_records : Setup → List Rule → List Record
all_run_records setup rules = former_records setup (undivided_run setup rules).entries

-- the undivided run's output of each variable is read as its records of that variable, and the
-- texts of all outputs in the run's order are read as all its records
pub record IsReread (setup : Setup) (rules : List Rule) : Type 0 where
  pub each : (v : VarId) → ReadsAs (output setup rules v) (Some (run_records setup rules v))
  pub former : ReadsAs (old_output setup rules) (Some (all_run_records setup rules))
