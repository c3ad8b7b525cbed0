-- The undivided run of a job: its outputs, its end, its states at checkpoint places.
use Rattle.std.specs.Prelude.{ℕ, ◌+◌, ◌^◌, ◌≡◌, ◌≤◌, ◌==◌, map, nat_le, List, [], ◌∷◌, ◌++◌, length, Option, Some, None, if◌then◌else◌}
use Rattle.std.specs.List.{flat_map}
use Rattle.cx_plan.specs.declared.variable.VarId.{VarId}
use Rattle.cx_plan.specs.Setups.{Setup}
use Rattle.cx_plan.specs.Lookups.{variable, is_scalar, bin}
use Rattle.cx_rule.specs.Routine.{Rule}
use Rattle.cx_ascii.specs.Output.{section, line}
use Rattle.cx_rule.specs.States.{State, level_of, scalar_of, rotate}
use Rattle.cx_model.specs.States.{start}
use Rattle.cx_model.specs.declared.ends.End.{End}
use Rattle.cx_model.specs.declared.ends.End.TheVariants.{Done, OutputLimit}
use Rattle.cx_model.specs.Traces.{Entry, Rotated, Wrote, Saved, Outcome, Goes, Ends, Trace, stays, ends, does, after, then_go}
use Rattle.cx_model.specs.Trees.{run_tree}
use Rattle.cx_model.specs.Stages.{Stage, Bin, Rotate, Save, Write, stages, stages_after}

-- a variable's section or line
abbrev pub text_of : Setup → ℕ → State → VarId → List ℕ
text_of setup iteration state v =
    if is_scalar setup v
    then line (variable setup v).full iteration (scalar_of state v)
    else section (variable setup v).full iteration setup.shape (level_of state v 0)

-- the texts of several variables, as entries
abbrev pub all_written : Setup → ℕ → State → List VarId → List Entry
all_written setup iteration state [] = []
all_written setup iteration state (v ∷ vs) =
    Wrote v iteration (text_of setup iteration state v) state ∷ all_written setup iteration state vs

-- ---- all stages, whatever the lengths of the outputs

-- the run of one stage
abbrev pub run_stage : Setup → List Rule → Stage → State → Trace
run_stage setup rules (Bin b iteration) state = run_tree setup rules iteration (bin setup b) state
run_stage setup rules Rotate state = does (Rotated state) (rotate state)
run_stage setup rules (Save iteration) state = does (Saved iteration state) state
run_stage setup rules (Write iteration) state =
    record { entries = all_written setup iteration state setup.out_vars; outcome = Goes state }

-- the run of several stages, one after another
abbrev pub run_stages : Setup → List Rule → List Stage → State → Trace
run_stages setup rules [] state = stays state
run_stages setup rules (s ∷ ss) state =
    then_go (run_stage setup rules s state) (run_stages setup rules ss)

-- ---- the outputs and their limit

-- the text that an entry adds to the output of a variable, and to all outputs together
abbrev pub text_to : VarId → Entry → List ℕ
text_to v (Wrote w iteration text state) = if w.0 == v.0 then text else []
text_to v _ = []

abbrev pub text_added : Entry → List ℕ
text_added (Wrote v iteration text state) = text
text_added _ = []

-- the output of a variable in some entries, and all of them in the run's order, as a former version
-- wrote them to one file
abbrev pub output_of : VarId → List Entry → List ℕ
output_of v entries = flat_map (text_to v) entries

abbrev pub former_output : List Entry → List ℕ
former_output entries = flat_map text_added entries

-- how long the outputs are, by the variables' numbers
abbrev pub Lengths : Type 0
Lengths = ℕ → ℕ

abbrev pub no_lengths : Lengths
no_lengths v = 0

-- no output is longer
abbrev pub AreNoLonger : Lengths → Lengths → Type 0
AreNoLonger a b = (v : ℕ) → a v ≤ b v

-- behind a text of a variable, and behind an entry
abbrev pub grown_by : Lengths → VarId → ℕ → Lengths
grown_by so_far w count v = if w.0 == v then so_far v + count else so_far v

abbrev pub lengths_after : Lengths → Entry → Lengths
lengths_after so_far (Wrote w iteration text state) = grown_by so_far w (length text)
lengths_after so_far _ = so_far

-- behind several entries
abbrev pub lengths_behind : Lengths → List Entry → Lengths
lengths_behind so_far [] = so_far
lengths_behind so_far (e ∷ es) = lengths_behind (lengths_after so_far e) es

-- the greatest length of each output
abbrev pub greatest_output : ℕ
greatest_output = 2 ^ 32

-- the iteration of a text with which its own output would pass the limit, where the outputs are so
-- long
abbrev pub passing : Lengths → Entry → Option ℕ
passing so_far (Wrote v iteration text state) = if nat_le (so_far v.0 + length text) greatest_output
    then None else Some iteration
passing so_far _ = None

-- the end at the limit where a text would pass it, else what follows
abbrev pub stop_or : Option ℕ → Trace → Trace
stop_or None rest = rest
stop_or (Some iteration) rest = ends (OutputLimit iteration)

-- the entries before the first text with which its own output would pass the limit, from these
-- lengths on
abbrev pub within_limit : Lengths → List Entry → Outcome → Trace
within_limit so_far [] outcome = record { entries = []; outcome = outcome }
within_limit so_far (e ∷ es) outcome =
    stop_or (passing so_far e) (after (e ∷ []) (within_limit (lengths_after so_far e) es outcome))

-- a trace as far as the outputs' limit lets it go
abbrev pub limited : Lengths → Trace → Trace
limited so_far t = within_limit so_far t.entries t.outcome

-- ---- the run

-- the undivided run, and the rest of a run that is continued from a state of iteration c and
-- outputs of these lengths
abbrev pub undivided_run : Setup → List Rule → Trace
undivided_run setup rules = limited no_lengths (run_stages setup rules (stages setup) (start setup))

abbrev pub continued_run : Setup → List Rule → ℕ → State → Lengths → Trace
continued_run setup rules c state so_far =
    limited so_far (run_stages setup rules (stages_after setup c) state)

-- how a run ends by its outcome; one that goes on has done all its iterations
abbrev pub end_by : Outcome → End
end_by (Goes state) = Done
end_by (Ends end) = end

-- the undivided run's output of a variable, the outputs of all that are written, and all of them in
-- the run's order
abbrev pub output : Setup → List Rule → VarId → List ℕ
output setup rules v = output_of v (undivided_run setup rules).entries

abbrev pub outputs : Setup → List Rule → List (List ℕ)
outputs setup rules = map (output setup rules) setup.out_vars

abbrev pub old_output : Setup → List Rule → List ℕ
old_output setup rules = former_output (undivided_run setup rules).entries

abbrev pub end : Setup → List Rule → End
end setup rules = end_by (undivided_run setup rules).outcome

-- the undivided run comes to the checkpoint place of c, in this state and with outputs of these
-- lengths
pub record Reaches (setup : Setup) (rules : List Rule) (c : ℕ) (state : State)
    (so_far : Lengths) : Type 0 where
  pub earlier : List Entry
  pub later : List Entry
  pub there : (undivided_run setup rules).entries ≡ earlier ++ Saved c state ∷ later
  pub lengths_there : so_far ≡ lengths_behind no_lengths earlier
