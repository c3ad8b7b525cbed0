-- The output of a scalar that never changes.
use Rattle.std.proofs.Common.{◌≡◌, refl, sym, ap, subst, ◌∙◌, ℕ, Bool, true, false, cond, ℤ, List, [], ◌∷◌, ◌++◌, map}
use Rattle.std.specs.Prelude.{◌==◌, if◌then◌else◌}
use Rattle.std.specs.List.{All, flat_map}
use Rattle.std.proofs.lemmas.Bool.{eqb-true}
use Rattle.cx_plan.specs.declared.variable.VarId.{VarId}
use Rattle.cx_plan.specs.Setups.{Setup}
use Rattle.cx_plan.specs.Lookups.{variable, is_scalar}
use Rattle.cx_plan.specs.Regions.{run_items}
use Rattle.cx_rule.specs.Routine.{Rule}
use Rattle.cx_rule.specs.States.{State, level_of, scalar_of, rotate}
use Rattle.cx_ascii.specs.Output.{line, section}
use Rattle.cx_model.specs.States.{IsState, start}
use Rattle.cx_model.specs.Traces.{Entry, Turned, Overflowed, Exchanged, Tested, Rotated, Wrote, Saved, Trace}
use Rattle.cx_model.specs.Runs.{text_of, output_of, undivided_run}
use Rattle.cx_model.specs.Alike.{bare, run_from, UsesOnlyOwn}
use Rattle.cx_model.proofs.StateLaws.{start_is_state}
use Rattle.cx_model.proofs.WalkLaws.{Each}
use Rattle.law_physics.specs.Constant.{IsConstant}
use Rattle.law_physics.proofs.Walks.{IsGood, TurnsWell, texts_of_good}

record AreLines (setup : Setup) (v : VarId) (value : ℤ) (bytes : List ℕ) : Type 0 where
  iterations : List ℕ
  lines : bytes ≡ flat_map (λ n. line (variable setup v).full n value) iterations

-- the text of a scalar is its line
line_of : (setup : Setup) (n : ℕ) (state : State) (v : VarId) → is_scalar setup v ≡ true
    → text_of setup n state v ≡ line (variable setup v).full n (scalar_of state v)
line_of setup n state v scalar =
    ap (λ (b : Bool). if b then line (variable setup v).full n (scalar_of state v)
    else section (variable setup v).full n setup.shape (level_of state v 0)) scalar

same_variable : (v w : VarId) → w.0 ≡ v.0 → w ≡ v
same_variable v w same = ap (λ i. record { 0 = i }) same

more : (setup : Setup) (v : VarId) (value : ℤ) (n : ℕ) (text bytes : List ℕ)
    → text ≡ line (variable setup v).full n value → AreLines setup v value bytes
    → AreLines setup v value (text ++ bytes)
more setup v value n text bytes is others =
    record {
      iterations = n ∷ others.iterations;
      lines = ap (λ t. t ++ bytes) is
          ∙ ap (λ t. line (variable setup v).full n value ++ t) others.lines;
    }

-- the texts of a variable are its lines with this value; that is seen without a state
abbrev pub Tells : Setup → VarId → ℤ → Entry → Type 0
Tells setup v value (Wrote w n text state) =
    w.0 ≡ v.0 → text ≡ line (variable setup v).full n value
Tells setup v value (Turned k n state) = Unit {0}
Tells setup v value (Overflowed k n state) = Unit {0}
Tells setup v value (Exchanged vars path state) = Unit {0}
Tells setup v value (Tested w path state) = Unit {0}
Tells setup v value (Rotated state) = Unit {0}
Tells setup v value (Saved n state) = Unit {0}

-- a text of a state in which a scalar has a number
pub line_in : (setup : Setup) (v w : VarId) (value : ℤ) (n : ℕ) (text : List ℕ) (state : State)
    → is_scalar setup v ≡ true → scalar_of state v ≡ value → text ≡ text_of setup n state w
    → w.0 ≡ v.0 → text ≡ line (variable setup v).full n value
line_in setup v w value n text state scalar told is same =
    is ∙ ap (text_of setup n state) (same_variable v w same) ∙ line_of setup n state v scalar
    ∙ ap (line (variable setup v).full n) told

module _ (setup : Setup) (v : VarId) (value : ℤ) where
  told_of_good : (Good : State → Type 0) (es : List Entry) → is_scalar setup v ≡ true
      → ((state : State) → Good state → scalar_of state v ≡ value)
      → Each (IsGood setup Good) es → Each (Tells setup v value) es
  told_of_good Good [] scalar told each = tt
  told_of_good Good (Wrote w n text state ∷ es) scalar told each = (
    λ same. line_in setup v w value n text state scalar (told state each.0.good) each.0.text same,
    told_of_good Good es scalar told each.1,
  )
  told_of_good Good (Turned k n state ∷ es) scalar told each =
      (tt, told_of_good Good es scalar told each.1)
  told_of_good Good (Overflowed k n state ∷ es) scalar told each =
      (tt, told_of_good Good es scalar told each.1)
  told_of_good Good (Exchanged vars path state ∷ es) scalar told each =
      (tt, told_of_good Good es scalar told each.1)
  told_of_good Good (Tested w path state ∷ es) scalar told each =
      (tt, told_of_good Good es scalar told each.1)
  told_of_good Good (Rotated state ∷ es) scalar told each =
      (tt, told_of_good Good es scalar told each.1)
  told_of_good Good (Saved n state ∷ es) scalar told each =
      (tt, told_of_good Good es scalar told each.1)

  -- the same of entries without their states, and back
  bare_told : (es : List Entry) → Each (Tells setup v value) es
      → Each (Tells setup v value) (map bare es)
  bare_told [] each = tt
  bare_told (Wrote w n text state ∷ es) each = (each.0, bare_told es each.1)
  bare_told (Turned k n state ∷ es) each = (tt, bare_told es each.1)
  bare_told (Overflowed k n state ∷ es) each = (tt, bare_told es each.1)
  bare_told (Exchanged vars path state ∷ es) each = (tt, bare_told es each.1)
  bare_told (Tested w path state ∷ es) each = (tt, bare_told es each.1)
  bare_told (Rotated state ∷ es) each = (tt, bare_told es each.1)
  bare_told (Saved n state ∷ es) each = (tt, bare_told es each.1)

  told_bare : (es : List Entry) → Each (Tells setup v value) (map bare es)
      → Each (Tells setup v value) es
  told_bare [] each = tt
  told_bare (Wrote w n text state ∷ es) each = (each.0, told_bare es each.1)
  told_bare (Turned k n state ∷ es) each = (tt, told_bare es each.1)
  told_bare (Overflowed k n state ∷ es) each = (tt, told_bare es each.1)
  told_bare (Exchanged vars path state ∷ es) each = (tt, told_bare es each.1)
  told_bare (Tested w path state ∷ es) each = (tt, told_bare es each.1)
  told_bare (Rotated state ∷ es) each = (tt, told_bare es each.1)
  told_bare (Saved n state ∷ es) each = (tt, told_bare es each.1)

  lines_of : (es : List Entry) → Each (Tells setup v value) es
      → AreLines setup v value (output_of v es)
  lines_of [] each = record { iterations = []; lines = refl }
  lines_of (Wrote w n text state ∷ es) each = by (w.0 == v.0) refl (lines_of es each.1)
    where
      by : (b : Bool) → (w.0 == v.0) ≡ b → AreLines setup v value (output_of v es)
          → AreLines setup v value (cond (w.0 == v.0) text [] ++ output_of v es)
      by true e others =
          subst (λ (b : Bool). AreLines setup v value (cond b text [] ++ output_of v es)) (sym e)
          (more setup v value n text (output_of v es) (each.0 (eqb-true w.0 v.0 e)) others)
      by false e others =
          subst (λ (b : Bool). AreLines setup v value (cond b text [] ++ output_of v es)) (sym e)
          others
  lines_of (Turned k n state ∷ es) each = lines_of es each.1
  lines_of (Overflowed k n state ∷ es) each = lines_of es each.1
  lines_of (Exchanged vars path state ∷ es) each = lines_of es each.1
  lines_of (Tested w path state ∷ es) each = lines_of es each.1
  lines_of (Rotated state ∷ es) each = lines_of es each.1
  lines_of (Saved n state ∷ es) each = lines_of es each.1

-- What is kept in a run of a scalar: a value, and something of each state, which some whole state
-- has, and which turns and rotations keep.
pub record Keeping (setup : Setup) (rules : List Rule) (v : VarId) (value : ℤ)
    (Good : State → Type 0) : Type 0 where
  pub scalar : is_scalar setup v ≡ true
  pub told : (state : State) → Good state → scalar_of state v ≡ value
  pub first : State
  pub is : IsState setup first
  pub good : Good first
  pub turns : All (TurnsWell setup rules Good) (run_items setup)
  pub rotates : (state : State) → Good state → Good (rotate state)

-- What a sound job writes doesn't depend on the numbers that it begins with. So its texts of such a
-- scalar are those of states that have what is kept.
pub texts_told : (setup : Setup) (rules : List Rule) (v : VarId) (value : ℤ)
    (Good : State → Type 0) → Keeping setup rules v value Good → UsesOnlyOwn setup rules
    → Each (Tells setup v value) (undivided_run setup rules).entries
texts_told setup rules v value Good k own =
    let same = own (start setup) k.first (start_is_state setup) k.is in
    told_bare setup v value (undivided_run setup rules).entries
    (subst (Each (Tells setup v value)) (sym (ap (λ (t : Trace). t.entries) same.does))
    (bare_told setup v value (run_from setup rules k.first).entries
    (told_of_good setup v value Good (run_from setup rules k.first).entries k.scalar k.told
    (texts_of_good setup rules Good k.turns k.rotates k.first k.good))))

pub constant : (setup : Setup) (rules : List Rule) (v : VarId) (value : ℤ)
    → Each (Tells setup v value) (undivided_run setup rules).entries → IsConstant setup rules v
constant setup rules v value each =
    let all = lines_of setup v value (undivided_run setup rules).entries each in
    record { value = value; iterations = all.iterations; lines = all.lines }
