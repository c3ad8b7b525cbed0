-- Writes keep agreement.
use Rattle.std.proofs.Common.{◌≡◌, ◌≢◌, ℕ, ◌<◌, ◌≤◌, Bool, true, false, ◌&&◌, ◌==◌, arith, refl, sym, ap, subst, ◌∙◌, inl, inr, ℤ, pos, List, [], ◌∷◌, length, get_or, set}
use Rattle.std.specs.List.{All}
use Rattle.std.proofs.lemmas.Bool.{cases_eq, cases_lt, and_parts, eqb-true, eq-eqb, false≢true}
use Rattle.std.proofs.lemmas.List.{get_or-set_same, get_or-set_other, get_or_past, length-set}
use Rattle.std.proofs.lemmas.List.Elements.{All-head, All-tail}
use Rattle.cx_grid.specs.declared.boxes.Point.{Point}
use Rattle.cx_grid.specs.Boxes.{IsIn, point_count}
use Rattle.cx_grid.specs.Grid.{whole, at}
use Rattle.cx_plan.specs.declared.variable.VarId.{VarId}
use Rattle.cx_plan.specs.declared.item.Touch.{Touch}
use Rattle.cx_plan.specs.declared.flag.Flag.{Flag}
use Rattle.cx_plan.specs.declared.flag.Flag.TheVariants.{I, B, S}
use Rattle.cx_plan.specs.Setups.{Setup}
use Rattle.cx_plan.specs.Lookups.{is_scalar}
use Rattle.cx_plan.specs.Regions.{Flags, written, after_write, all_written, same_variable}
use Rattle.cx_rule.specs.States.{State, level_of, scalar_of, with_level, with_scalar}
use Rattle.cx_model.specs.States.{IsState}
use Rattle.cx_rule.specs.Sweeps.{all_fit, scalars_after}
use Rattle.cx_model.proofs.StateLaws.{with_level_keeps, with_scalar_keeps}
use Rattle.cx_model.specs.Agreement.{Agree, is_told, IsStoredTouch}

-- ---- what a write leaves of a state

abbrev pub is_written_at : Touch → VarId → ℕ → Bool
is_written_at w v level = same_variable v w.var && level == w.level

-- the written level
pub level-new : (setup : Setup) (state : State) (w : Touch) (numbers : List ℤ) → IsState setup state
    → IsStoredTouch setup w
    → level_of (with_level state w.var w.level numbers) w.var w.level ≡ numbers
level-new setup state w numbers is there =
    let in_vars : w.var.0 < length state = subst (λ n. w.var.0 < n) (sym is.vars) there.0 in
    let in_levels : w.level < length (get_or state w.var.0 []) =
    subst (λ n. w.level < n) (sym (is.levels w.var there.0)) there.1 in
    ap (λ levels. get_or levels w.level [])
    (get_or-set_same state w.var.0 (set (get_or state w.var.0 []) w.level numbers) [] in_vars)
    ∙ get_or-set_same (get_or state w.var.0 []) w.level numbers [] in_levels

-- the levels of other variables
levels-other : (state : State) (w v : VarId) (level : ℕ) (numbers : List ℤ) → v.0 ≢ w.0
    → get_or (with_level state w level numbers) v.0 [] ≡ get_or state v.0 []
levels-other state w v level numbers other =
    get_or-set_other state w.0 v.0 (set (get_or state w.0 []) level numbers) [] other

-- other levels of the same variable
level-beside : (state : State) (w : VarId) (l level : ℕ) (numbers : List ℤ) → l ≢ level
    → level_of (with_level state w level numbers) w l ≡ level_of state w l
level-beside state w l level numbers other =
    elim (cases_lt w.0 (length state)) [
      | inl there ↦
          ap (λ levels. get_or levels l [])
          (get_or-set_same state w.0 (set (get_or state w.0 []) level numbers) [] there)
          ∙ get_or-set_other (get_or state w.0 []) level l numbers [] other
      | inr past ↦ ap (λ levels. get_or levels l []) (past_all past)
    ]
  where
    past_all : length state ≤ w.0
        → get_or (with_level state w level numbers) w.0 [] ≡ get_or state w.0 []
    past_all past = get_or_past (with_level state w level numbers) w.0 []
        (let e = length-set state w.0 (set (get_or state w.0 []) level numbers) in
        omega (arith, e, past)) ∙ sym (get_or_past state w.0 [] past)

-- a level that isn't the written one
pub level-old : (state : State) (w : Touch) (v : VarId) (level : ℕ) (numbers : List ℤ)
    → is_written_at w v level ≡ false
    → level_of (with_level state w.var w.level numbers) v level ≡ level_of state v level
level-old state w v level numbers isnt =
    elim (cases_eq v.0 w.var.0) [
      | inl same ↦ by same (elsewhere same)
      | inr other ↦ ap (λ levels. get_or levels level [])
          (levels-other state w.var v w.level numbers other)
    ]
  where
    elsewhere : v.0 ≡ w.var.0 → level ≢ w.level
    elsewhere same here = false≢true
        (sym isnt ∙ rw (eq-eqb v.0 w.var.0 same, eq-eqb level w.level here) refl)

    by : v.0 ≡ w.var.0 → level ≢ w.level
        → level_of (with_level state w.var w.level numbers) v level ≡ level_of state v level
    by same other =
        subst (λ k. get_or (get_or (with_level state w.var w.level numbers) k []) level []
        ≡ get_or (get_or state k []) level []) (sym same)
        (level-beside state w.var level w.level numbers other)

-- ---- flags

pub flag-new : (setup : Setup) (flags : Flags) (w : Touch) (f : Flag)
    → is_scalar setup w.var ≡ false
    → written setup flags w w.var w.level f ≡ after_write w.region f (flags w.var w.level f)
flag-new setup flags w f grid =
    rw (eq-eqb w.var.0 w.var.0 refl, eq-eqb w.level w.level refl, grid) refl

pub flag-old : (setup : Setup) (flags : Flags) (w : Touch) (v : VarId) (level : ℕ) (f : Flag)
    → is_written_at w v level ≡ false → written setup flags w v level f ≡ flags v level f
flag-old setup flags w v level f isnt = rw isnt refl

same_id : (v w : VarId) → v.0 ≡ w.0 → v ≡ w
same_id v w e = ap (λ n. record { 0 = n }) e

pub other-var : (w : Touch) (v : VarId) (level : ℕ) → v.0 ≢ w.var.0
    → is_written_at w v level ≡ false
other-var w v level other = by (v.0 == w.var.0) refl
  where
    by : (b : Bool) → (v.0 == w.var.0) ≡ b → (b && level == w.level) ≡ false
    by true is = absurd (other (eqb-true v.0 w.var.0 is))
    by false is = refl

kinds-differ : (setup : Setup) (v w : VarId) (a b : Bool) → is_scalar setup v ≡ a
    → is_scalar setup w ≡ b → a ≢ b → v.0 ≢ w.0
kinds-differ setup v w a b one two differ same =
    differ (sym one ∙ ap (is_scalar setup) (same_id v w same) ∙ two)

told-old : (setup : Setup) (flags : Flags) (w : Touch) (v : VarId) (level : ℕ) (p : Point)
    → is_written_at w v level ≡ false
    → is_told setup (written setup flags w) v level p ≡ is_told setup flags v level p
told-old setup flags w v level p isnt =
    rw (flag-old setup flags w v level B isnt, flag-old setup flags w v level I isnt) refl

-- ---- agreement after a write

pub agree-level : (setup : Setup) (flags : Flags) (a b : State) (w : Touch) (xs ys : List ℤ)
    → Agree setup flags a b → is_scalar setup w.var ≡ false → IsStoredTouch setup w
    → length xs ≡ point_count (whole setup.shape) → length ys ≡ point_count (whole setup.shape)
    → ((p : Point) → IsIn (whole setup.shape) p
    → is_told setup (written setup flags w) w.var w.level p ≡ true
    → at setup.shape xs p ≡ at setup.shape ys p)
    → Agree setup (written setup flags w) (with_level a w.var w.level xs)
    (with_level b w.var w.level ys)
agree-level setup flags a b w xs ys agree grid there one two same =
    record {
      first = with_level_keeps setup a w.var w.level xs agree.first (rw grid one);
      second = with_level_keeps setup b w.var w.level ys agree.second (rw grid two);
      points = λ v level p is h told. points v level p (is_written_at w v level) refl is h told;
      scalars = λ v level is told.
          scalars v level is told
          (kinds-differ setup v w.var true false is grid (λ e. false≢true (sym e)));
    }
  where
    points : (v : VarId) (level : ℕ) (p : Point) (here : Bool) → is_written_at w v level ≡ here
        → is_scalar setup v ≡ false → IsIn (whole setup.shape) p
        → is_told setup (written setup flags w) v level p ≡ true
        → at setup.shape (level_of (with_level a w.var w.level xs) v level) p
        ≡ at setup.shape (level_of (with_level b w.var w.level ys) v level) p
    points v level p true here is h told =
        let parts = and_parts (same_variable v w.var) (level == w.level) here in
        let v_is : v ≡ w.var = same_id v w.var (eqb-true v.0 w.var.0 parts.0) in
        let l_is : level ≡ w.level = eqb-true level w.level parts.1 in
        ap (λ u. at setup.shape (level_of (with_level a w.var w.level xs) u level) p) v_is
        ∙ ap (λ l. at setup.shape (level_of (with_level a w.var w.level xs) w.var l) p) l_is
        ∙ ap (λ l. at setup.shape l p) (level-new setup a w xs agree.first there)
        ∙ same p h
        (sym (ap (λ u. is_told setup (written setup flags w) u level p) v_is
        ∙ ap (λ l. is_told setup (written setup flags w) w.var l p) l_is) ∙ told)
        ∙ sym (ap (λ u. at setup.shape (level_of (with_level b w.var w.level ys) u level) p) v_is
        ∙ ap (λ l. at setup.shape (level_of (with_level b w.var w.level ys) w.var l) p) l_is
        ∙ ap (λ l. at setup.shape l p) (level-new setup b w ys agree.second there))
    points v level p false here is h told =
        ap (λ l. at setup.shape l p) (level-old a w v level xs here)
        ∙ agree.points v level p is h (sym (told-old setup flags w v level p here) ∙ told)
        ∙ ap (λ l. at setup.shape l p) (sym (level-old b w v level ys here))

    scalars : (v : VarId) (level : ℕ) → is_scalar setup v ≡ true
        → written setup flags w v level S ≡ true → v.0 ≢ w.var.0
        → scalar_of (with_level a w.var w.level xs) v ≡ scalar_of (with_level b w.var w.level ys) v
    scalars v level is told other =
        ap (λ levels. get_or (get_or levels 0 []) 0 (pos 0))
        (levels-other a w.var v w.level xs other)
        ∙ agree.scalars v level is
        (sym (flag-old setup flags w v level S (other-var w v level other)) ∙ told)
        ∙ ap (λ levels. get_or (get_or levels 0 []) 0 (pos 0))
        (sym (levels-other b w.var v w.level ys other))

pub agree-scalar : (setup : Setup) (flags : Flags) (a b : State) (w : Touch) (n : ℤ)
    → Agree setup flags a b → is_scalar setup w.var ≡ true → IsStoredTouch setup w
    → Agree setup (written setup flags w) (with_scalar a w.var n) (with_scalar b w.var n)
agree-scalar setup flags a b w n agree scalar there =
    record {
      first = with_scalar_keeps setup a w.var n agree.first scalar;
      second = with_scalar_keeps setup b w.var n agree.second scalar;
      points = λ v level p is h told.
          points v level p is h told (kinds-differ setup v w.var false true is scalar false≢true);
      scalars = λ v level is told. elim (cases_eq v.0 w.var.0) [
        | inl same ↦ here v (same_id v w.var same)
        | inr other ↦ elsewhere v level is told other
      ];
    }
  where
    points : (v : VarId) (level : ℕ) (p : Point) → is_scalar setup v ≡ false
        → IsIn (whole setup.shape) p → is_told setup (written setup flags w) v level p ≡ true
        → v.0 ≢ w.var.0
        → at setup.shape (level_of (with_scalar a w.var n) v level) p
        ≡ at setup.shape (level_of (with_scalar b w.var n) v level) p
    points v level p is h told other =
        ap (λ levels. at setup.shape (get_or levels level []) p)
        (levels-other a w.var v 0 (n ∷ []) other)
        ∙ agree.points v level p is h
        (sym (told-old setup flags w v level p (other-var w v level other)) ∙ told)
        ∙ ap (λ levels. at setup.shape (get_or levels level []) p)
        (sym (levels-other b w.var v 0 (n ∷ []) other))

    zeroth : Touch
    zeroth = record w { level = 0 }

    zeroth_there : IsStoredTouch setup zeroth
    zeroth_there = let l = there.1 in (there.0, omega (arith, l))

    here : (v : VarId) → v ≡ w.var
        → scalar_of (with_scalar a w.var n) v ≡ scalar_of (with_scalar b w.var n) v
    here v is =
        ap (λ u. scalar_of (with_scalar a w.var n) u) is
        ∙ ap (λ l. get_or l 0 (pos 0))
        (level-new setup a zeroth (n ∷ []) agree.first zeroth_there
        ∙ sym (level-new setup b zeroth (n ∷ []) agree.second zeroth_there))
        ∙ ap (λ u. scalar_of (with_scalar b w.var n) u) (sym is)

    elsewhere : (v : VarId) (level : ℕ) → is_scalar setup v ≡ true
        → written setup flags w v level S ≡ true → v.0 ≢ w.var.0
        → scalar_of (with_scalar a w.var n) v ≡ scalar_of (with_scalar b w.var n) v
    elsewhere v level is told other =
        ap (λ levels. get_or (get_or levels 0 []) 0 (pos 0))
        (levels-other a w.var v 0 (n ∷ []) other)
        ∙ agree.scalars v level is
        (sym (flag-old setup flags w v level S (other-var w v level other)) ∙ told)
        ∙ ap (λ levels. get_or (get_or levels 0 []) 0 (pos 0))
        (sym (levels-other b w.var v 0 (n ∷ []) other))

-- the scalars that an item writes
pub agree-scalars : (setup : Setup) (ws : List Touch) (ns : List ℤ) (flags : Flags) (a b : State)
    → Agree setup flags a b → all_fit setup ws ns ≡ true
    → All (λ (w : Touch). is_scalar setup w.var ≡ true) ws → All (IsStoredTouch setup) ws
    → Agree setup (all_written setup ws flags) (scalars_after ws ns a) (scalars_after ws ns b)
agree-scalars setup [] ns flags a b agree fit scalars there = agree
agree-scalars setup (w ∷ ws) [] flags a b agree fit scalars there = absurd (false≢true fit)
agree-scalars setup (w ∷ ws) (n ∷ ns) flags a b agree fit scalars there =
    agree-scalars setup ws ns (written setup flags w) (with_scalar a w.var n)
    (with_scalar b w.var n)
    (agree-scalar setup flags a b w n agree
    (All-head (λ (w : Touch). is_scalar setup w.var ≡ true) w ws scalars)
    (All-head (IsStoredTouch setup) w ws there))
    (and_parts _ (all_fit setup ws ns) fit).1
    (All-tail (λ (w : Touch). is_scalar setup w.var ≡ true) w ws scalars)
    (All-tail (IsStoredTouch setup) w ws there)
