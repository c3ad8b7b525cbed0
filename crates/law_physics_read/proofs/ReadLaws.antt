-- Records of a scalar whose lines have one value have one value.
use Rattle.std.proofs.Common.{◌≡◌, refl, sym, ap, subst, ◌∙◌, ℕ, Bool, true, false, ℤ, pos, List, [], ◌∷◌, ◌++◌, Option, Some, None, get_or}
use Rattle.std.specs.Prelude.{◌==◌, if◌then◌else◌, codes, Result, Ok, Err, IfOk}
use Rattle.std.specs.Option.{unwrap_or}
use Rattle.std.specs.Fmt.{signed_decimal}
use Rattle.std.specs.Int.{w64}
use Rattle.std.specs.Int.RustNames.{FitsSigned}
use Rattle.std.specs.List.{All, AllByRecursion}
use Rattle.std.proofs.lemmas.Bool.{eqb-true}
use Rattle.std.proofs.lemmas.List.{append_cancel_left, append_cancel_right}
use Rattle.std.proofs.lemmas.List.Elements.{All-nil, All-cons, All-from_get_or}
use Rattle.cx_text.specs.declared.memory.Memory.{Memory}
use Rattle.cx_plan.specs.declared.variable.VarId.{VarId}
use Rattle.cx_plan.specs.Setups.{Setup}
use Rattle.cx_plan.specs.Lookups.{variable, is_scalar}
use Rattle.cx_plan.specs.Regions.{run_items}
use Rattle.cx_rule.specs.Routine.{Rule}
use Rattle.cx_rule.specs.States.{State, level_of, scalar_of}
use Rattle.cx_ascii.specs.Output.{line, head_text}
use Rattle.cx_plan.specs.Steering.{item_at}
use Rattle.cx_model.specs.States.{start}
use Rattle.cx_model.specs.Turns.{turn}
use Rattle.cx_model.specs.Traces.{Entry, Turned, Overflowed, Exchanged, Tested, Rotated, Wrote, Saved}
use Rattle.cx_model.specs.Runs.{text_of, undivided_run}
use Rattle.cx_model.proofs.WalkLaws.{Each}
use Rattle.cx_ascii_read.specs.declared.record.Record.{Record}
use Rattle.cx_ascii_read.specs.Reading.{value_of}
use Rattle.cx_ascii_read.specs.Records.{IsRecord}
use Rattle.cx_ascii_read.specs.Printed.{level_record, value_record}
use Rattle.cx_ascii_read.proofs.NumberLaws.{value_word}
use Rattle.law_output_read.specs.RunRecords.{record_of, records_of, run_records, IsReread}
use Rattle.law_physics_read.specs.Reread.{AreOfOneValue}
use Rattle.law_physics.proofs.Outputs.{Tells, line_in}
use Rattle.law_physics.proofs.Walks.{GoodOr, TurnsWell, IsGood, texts_of_good}

-- the value that a line of this value is read as
abbrev read_back : ℤ → ℤ
read_back value = unwrap_or (value_of (signed_decimal value)) (pos 0)

-- lines of one name and iteration have one value, if it is one of 64 bits
same_value : (full : List ℕ) (n : ℕ) (value number : ℤ) → FitsSigned w64 number
    → line full n number ≡ line full n value → number ≡ read_back value
same_value full n value number fits same =
    let one = append_cancel_right (head_text full n ++ codes " value " ++ signed_decimal number)
    (head_text full n ++ codes " value " ++ signed_decimal value) (10 ∷ []) same in
    let two = append_cancel_left (head_text full n ++ codes " value ") (signed_decimal number)
    (signed_decimal value) one in
    sym (ap (λ (text : List ℕ). unwrap_or (value_of text) (pos 0)) (sym two)
    ∙ ap (λ (found : Option ℤ). unwrap_or found (pos 0)) (value_word.again number fits))

abbrev HasValue : ℤ → Record → Type 0
HasValue value r = r.values ≡ value ∷ []

module _ (setup : Setup) (v : VarId) (value : ℤ) (scalar : is_scalar setup v ≡ true) where
  -- the record of a text
  one_record : (w : VarId) (n : ℕ) (text : List ℕ) (state : State)
      → text ≡ text_of setup n state w → (w.0 ≡ v.0 → text ≡ line (variable setup v).full n value)
      → w.0 ≡ v.0 → IsRecord (record_of setup n state w)
      → HasValue (read_back value) (record_of setup n state w)
  one_record w n text state is told same fits =
      let here = ap (λ i. record_of setup n state (record { 0 = i })) same
      ∙ ap (λ (b : Bool). if b
      then value_record (variable setup v).full n (scalar_of state v)
      else level_record (variable setup v).full n setup.shape (level_of state v 0)) scalar in
      let there = subst IsRecord here fits in
      ap (λ (r : Record). r.values) here
      ∙ ap (λ (z : ℤ). z ∷ [])
      (same_value (variable setup v).full n value (scalar_of state v) there.values.0
      (sym (line_in setup v w (scalar_of state v) n text state scalar refl is same)
      ∙ told same))

  one_value : (es : List Entry) → Each (IsGood setup (λ state. Unit {0})) es
      → Each (Tells setup v value) es → AllByRecursion IsRecord (records_of setup v es)
      → All (HasValue (read_back value)) (records_of setup v es)
  one_value [] texts told fit = All-nil (HasValue (read_back value))
  one_value (Wrote w n text state ∷ es) texts told fit =
      by (w.0 == v.0) refl fit (λ more. one_value es texts.1 told.1 more)
    where
      by : (b : Bool) → (w.0 == v.0) ≡ b
          → AllByRecursion IsRecord
          ((if b then record_of setup n state w ∷ [] else []) ++ records_of setup v es)
          → (AllByRecursion IsRecord (records_of setup v es)
          → All (HasValue (read_back value)) (records_of setup v es))
          → All (HasValue (read_back value))
          ((if b then record_of setup n state w ∷ [] else []) ++ records_of setup v es)
      by true e fit others =
          All-cons (HasValue (read_back value)) (record_of setup n state w)
          (records_of setup v es)
          (one_record w n text state texts.0.text told.0 (eqb-true w.0 v.0 e) fit.0)
          (others fit.1)
      by false e fit others = others fit
  one_value (Turned k n state ∷ es) texts told fit = one_value es texts.1 told.1 fit
  one_value (Overflowed k n state ∷ es) texts told fit = one_value es texts.1 told.1 fit
  one_value (Exchanged vars path state ∷ es) texts told fit = one_value es texts.1 told.1 fit
  one_value (Tested w path state ∷ es) texts told fit = one_value es texts.1 told.1 fit
  one_value (Rotated state ∷ es) texts told fit = one_value es texts.1 told.1 fit
  one_value (Saved n state ∷ es) texts told fit = one_value es texts.1 told.1 fit

-- ---- all texts of a run are those of its states

any : (o : Option State) → GoodOr (λ state. Unit {0}) o
any None = tt
any (Some state) = tt

own_texts : (setup : Setup) (rules : List Rule)
    → Each (IsGood setup (λ state. Unit {0})) (undivided_run setup rules).entries
own_texts setup rules =
    texts_of_good setup rules (λ state. Unit {0})
    (All-from_get_or (TurnsWell setup rules (λ state. Unit {0})) (run_items setup) 0
    (λ i below n state good.
    any (turn setup rules (item_at setup (get_or (run_items setup) i 0) n) state n)))
    (λ state good. tt) (start setup) tt

-- what is read of the output of such a scalar
pub read_one : (setup : Setup) (rules : List Rule) (v : VarId) (value : ℤ)
    (found : Result (Option (List Record)) Memory) → is_scalar setup v ≡ true
    → Each (Tells setup v value) (undivided_run setup rules).entries → IsReread setup rules
    → IfOk found (λ x. x ≡ Some (run_records setup rules v)) → IfOk found AreOfOneValue
read_one setup rules v value (Ok x) scalar told again is =
    record {
      value = read_back value;
      records = run_records setup rules v;
      found_are = is;
      each = one_value setup v value scalar (undivided_run setup rules).entries
          (own_texts setup rules) told (again.each v).in_range;
    }
read_one setup rules v value (Err e) scalar told again is = tt
