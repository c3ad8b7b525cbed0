-- Runs that do the same, whatever is in the states.
use Rattle.std.specs.Prelude.{◌≡◌, List, [], map}
use Rattle.cx_plan.specs.declared.variable.VarId.{VarId}
use Rattle.cx_plan.specs.Setups.{Setup}
use Rattle.cx_plan.specs.Regions.{Flags}
use Rattle.cx_rule.specs.Routine.{Rule}
use Rattle.cx_rule.specs.States.{State}
use Rattle.cx_model.specs.States.{IsState}
use Rattle.cx_model.specs.Traces.{Entry, Turned, Overflowed, Exchanged, Tested, Rotated, Wrote, Saved, Outcome, Goes, Ends, Trace}
use Rattle.cx_model.specs.Stages.{stages}
use Rattle.cx_model.specs.Runs.{run_stages, output_of, no_lengths, limited, end_by}
use Rattle.cx_model.specs.Work.{points_computed}
use Rattle.cx_model.specs.Uses.{entries_leave}
use Rattle.cx_model.specs.Agreement.{Agree}

-- an entry without its state; a text stays
abbrev pub bare : Entry → Entry
bare (Turned k iteration state) = Turned k iteration []
bare (Overflowed k iteration state) = Overflowed k iteration []
bare (Exchanged vars path state) = Exchanged vars path []
bare (Tested v path state) = Tested v path []
bare (Rotated state) = Rotated []
bare (Wrote v iteration text state) = Wrote v iteration text []
bare (Saved iteration state) = Saved iteration []

-- what a run does and how it ends, without its states
abbrev pub bared : Trace → Trace
bared t = record { entries = map bare t.entries; outcome = Ends (end_by t.outcome) }

-- two runs go on in states that agree, or end alike
abbrev pub AlikeOutcome : Setup → Flags → Outcome → Outcome → Type 0
AlikeOutcome setup flags (Goes a) (Goes b) = Agree setup flags a b
AlikeOutcome setup flags (Goes a) (Ends e) = ⊥
AlikeOutcome setup flags (Ends e) (Goes b) = ⊥
AlikeOutcome setup flags (Ends e) (Ends f) = e ≡ f

-- from these flags on two runs do the same, and agree for the flags that they leave
pub record Alike (setup : Setup) (flags : Flags) (one two : Trace) : Type 0 where
  pub entries : map bare one.entries ≡ map bare two.entries
  pub outcome : AlikeOutcome setup (entries_leave setup one.entries flags) one.outcome two.outcome

-- the run of a job that begins in a state
abbrev pub run_from : Setup → List Rule → State → Trace
run_from setup rules state = limited no_lengths (run_stages setup rules (stages setup) state)

-- two runs do the same, write the same, compute as many points and end alike
pub record SameRun (setup : Setup) (one two : Trace) : Type 0 where
  pub does : bared one ≡ bared two
  pub output : (v : VarId) → output_of v one.entries ≡ output_of v two.entries
  pub points : points_computed setup one.entries ≡ points_computed setup two.entries
  pub end : end_by one.outcome ≡ end_by two.outcome

-- what a run does, writes and ends with doesn't depend on the numbers with which it begins
abbrev pub UsesOnlyOwn : Setup → List Rule → Type 0
UsesOnlyOwn setup rules =
    (a b : State) → IsState setup a → IsState setup b
    → SameRun setup (run_from setup rules a) (run_from setup rules b)
