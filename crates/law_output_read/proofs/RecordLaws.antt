-- The outputs of a run spell the run's records.
use Rattle.std.proofs.Common.{◌≡◌, refl, sym, subst, ℕ, ◌<◌, ◌≤◌, ◌^◌, Bool, true, false, nat_le, List, [], ◌∷◌, length, All, if◌then◌else◌, arith, le-leb}
use Rattle.std.specs.Prelude.{◌==◌, Option, Some, Result, Ok, Err, IfOk}
use Rattle.std.specs.List.{list_all}
use Rattle.std.proofs.lemmas.Bool.{and_from}
use Rattle.std.proofs.lemmas.List.Elements.{All-head, All-tail, All-get_or, recursion_from_All}
use Rattle.cx_text.specs.declared.memory.Memory.{Memory}
use Rattle.cx_text.specs.Bytes.{is_printable}
use Rattle.cx_grid.specs.Boxes.{point_count}
use Rattle.cx_grid.specs.Grid.{whole}
use Rattle.cx_plan.specs.declared.variable.VarId.{VarId}
use Rattle.cx_plan.specs.declared.variable.VarInfo.{VarInfo}
use Rattle.cx_plan.specs.declared.job.Job.{Job}
use Rattle.cx_plan.specs.Setups.{Setup, setup_of}
use Rattle.cx_plan.specs.Lookups.{variable, no_variable, is_scalar}
use Rattle.cx_plan.specs.Whole.{IsName, IsWhole}
use Rattle.cx_rule.specs.Routine.{Rule}
use Rattle.cx_rule.specs.States.{State, level_of, scalar_of}
use Rattle.cx_ascii.specs.Output.{section, line}
use Rattle.cx_model.specs.States.{IsState, start}
use Rattle.cx_model.specs.Traces.{Entry, Turned, Overflowed, Exchanged, Tested, Rotated, Wrote, Saved}
use Rattle.cx_model.specs.Runs.{text_to, text_added, output_of, former_output, undivided_run}
use Rattle.cx_model.specs.Values.{state_before, KeepsStates}
use Rattle.cx_model.proofs.WalkLaws.{Each}
use Rattle.cx_ascii_read.specs.declared.record.Record.{Record}
use Rattle.cx_ascii_read.specs.Records.{is_name, Spells}
use Rattle.cx_ascii_read.specs.Printed.{level_record, value_record, IsHead, SectionsAreRecords, LinesAreRecords, TextsJoin}
use Rattle.law_output_read.specs.RunRecords.{record_of, records_to, records_added, records_of, former_records, IsReread}
use Rattle.law_output_read.proofs.NumberLaws.{level_small, scalar_small, IsSmall}
use Rattle.law_output_read.proofs.WalkLaws.{IsText, IsTold, run_told}

-- ---- names

printable : (bs : List ℕ) → All (λ b. (33 ≤ b) × (b ≤ 126)) bs → list_all is_printable bs ≡ true
printable [] all = refl
printable (b ∷ bs) all =
    let h = All-head (λ (c : ℕ). (33 ≤ c) × (c ≤ 126)) b bs all in
    and_from (is_printable b) (list_all is_printable bs)
    (and_from (nat_le 33 b) (nat_le b 126) (le-leb 33 b h.0) (le-leb b 126 h.1))
    (printable bs (All-tail (λ (c : ℕ). (33 ≤ c) × (c ≤ 126)) b bs all))

named : (full : List ℕ) → IsName full → is_name full ≡ true
named [] is = absurd (let some = is.0 in omega (arith, some))
named (b ∷ bs) is = printable (b ∷ bs) is.1

-- ---- texts

pub record Laws : Type 0 where
  pub sections : SectionsAreRecords
  pub lines : LinesAreRecords
  pub joined : TextsJoin

few : (n most : ℕ) → n ≤ most → most ≤ 1000000 → n < 2 ^ 64
few n most h l = omega (arith, h, l)

nothing_spelled : Spells [] []
nothing_spelled = record { in_range = tt; spelled = refl }

module _ (job : Job) (job_is : IsWhole job) (laws : Laws) where
  abbrev setup : Setup
  setup = setup_of job

  head_of : (v : VarId) (n : ℕ) (text : List ℕ) (state : State) → IsText job v n text state
      → IsHead (variable setup v).full n
  head_of v n text state is =
      record {
        named = named (variable setup v).full
            (All-get_or (λ (i : VarInfo). IsName i.full)
            job.vars v.0 no_variable is.stored.0 job_is.names);
        small = few n job.itlast is.within job_is.itlast_limit;
      }

  one_spelled : (v : VarId) (n : ℕ) (text : List ℕ) (state : State) → IsText job v n text state
      → IsState setup state → Spells text (record_of setup n state v ∷ [])
  one_spelled v n text state is whole_state =
      subst (λ (t : List ℕ). Spells t (record_of setup n state v ∷ [])) (sym is.text)
      (by (is_scalar setup v) (whole_state.numbers v 0 is.stored.0 is.stored.1))
    where
      by : (scalar : Bool) → length (level_of state v 0)
          ≡ (if scalar then 1 else point_count (whole setup.shape))
          → Spells (if scalar then line (variable setup v).full n (scalar_of state v)
          else section (variable setup v).full n setup.shape (level_of state v 0))
          ((if scalar then value_record (variable setup v).full n (scalar_of state v)
          else level_record (variable setup v).full n setup.shape (level_of state v 0)) ∷ [])
      by true count = laws.lines (variable setup v).full n (scalar_of state v)
          (head_of v n text state is) (scalar_small state v is.small)
      by false count =
          laws.sections (variable setup v).full n setup.shape (level_of state v 0)
          (head_of v n text state is) job_is.shape count
          (recursion_from_All IsSmall (level_of state v 0) (level_small state v 0 is.small))

  entry_spelled : (e : Entry) → IsTold job e → IsState setup (state_before e)
      → Spells (text_added e) (records_added setup e)
  entry_spelled (Turned k n state) told is = nothing_spelled
  entry_spelled (Overflowed k n state) told is = nothing_spelled
  entry_spelled (Exchanged vars path state) told is = nothing_spelled
  entry_spelled (Tested v path state) told is = nothing_spelled
  entry_spelled (Rotated state) told is = nothing_spelled
  entry_spelled (Saved n state) told is = nothing_spelled
  entry_spelled (Wrote v n text state) told is = one_spelled v n text state told is

  -- a text and its records, where they are of the variable
  if_spelled : (there : Bool) (text : List ℕ) (rs : List Record) → Spells text rs
      → Spells (if there then text else []) (if there then rs else [])
  if_spelled true text rs is = is
  if_spelled false text rs is = nothing_spelled

  spelled_to : (v : VarId) (e : Entry) → IsTold job e → IsState setup (state_before e)
      → Spells (text_to v e) (records_to setup v e)
  spelled_to v (Turned k n state) told is = nothing_spelled
  spelled_to v (Overflowed k n state) told is = nothing_spelled
  spelled_to v (Exchanged vars path state) told is = nothing_spelled
  spelled_to v (Tested w path state) told is = nothing_spelled
  spelled_to v (Rotated state) told is = nothing_spelled
  spelled_to v (Saved n state) told is = nothing_spelled
  spelled_to v (Wrote w n text state) told is =
      if_spelled (w.0 == v.0) text (record_of setup n state w ∷ [])
      (one_spelled w n text state told is)

  output_spelled : (v : VarId) (es : List Entry) → Each (IsTold job) es
      → All (λ e. IsState setup (state_before e)) es
      → Spells (output_of v es) (records_of setup v es)
  output_spelled v [] told are = nothing_spelled
  output_spelled v (e ∷ es) told are =
      laws.joined (text_to v e) (output_of v es) (records_to setup v e) (records_of setup v es)
      (spelled_to v e told.0 (All-head (λ (x : Entry). IsState setup (state_before x)) e es are))
      (output_spelled v es told.1
      (All-tail (λ (x : Entry). IsState setup (state_before x)) e es are))

  pub former_spelled : (es : List Entry) → Each (IsTold job) es
      → All (λ e. IsState setup (state_before e)) es
      → Spells (former_output es) (former_records setup es)
  former_spelled [] told are = nothing_spelled
  former_spelled (e ∷ es) told are =
      laws.joined (text_added e) (former_output es) (records_added setup e)
      (former_records setup es)
      (entry_spelled e told.0 (All-head (λ (x : Entry). IsState setup (state_before x)) e es are))
      (former_spelled es told.1
      (All-tail (λ (x : Entry). IsState setup (state_before x)) e es are))

  pub is_reread : (rules : List Rule) → KeepsStates setup rules → IsReread setup rules
  is_reread rules keeps =
      let told = run_told job job_is.outputs rules in
      let are = keeps.run (start setup) keeps.begins in
      record {
        each = λ v. output_spelled v (undivided_run setup rules).entries told are;
        former = former_spelled (undivided_run setup rules).entries told are;
      }

-- ---- what is read of them

pub read_as :
    (found : Result (Option (List Record)) Memory) {bytes text : List ℕ} (rs : List Record)
    → IfOk found (λ x. (ss : List Record) → Spells bytes ss → x ≡ Some ss) → bytes ≡ text
    → Spells text rs → IfOk found (λ x. x ≡ Some rs)
read_as (Ok x) {bytes} rs only is spelled =
    only rs (subst (λ (b : List ℕ). Spells b rs) (sym is) spelled)
read_as (Err e) rs only is spelled = tt
