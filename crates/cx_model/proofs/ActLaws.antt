-- Exchanges, rotations, tests and texts of states that agree.
use Rattle.std.proofs.Common.{◌≡◌, ℕ, zero, suc, ◌-◌, ◌<◌, ◌≤◌, Bool, true, false, ◌&&◌, ◌||◌, ◌==◌, nat_lt, cond, arith, refl, sym, ap, subst, ◌∙◌, inl, inr, pos, List, [], ◌∷◌, ◌++◌, length, take, drop, get_or, codes, Some, if◌then◌else◌}
use Rattle.std.proofs.lemmas.Bool.{cases_lt, ltb-true, ltb-false, false≢true}
use Rattle.std.proofs.lemmas.List.{get_or_past, get_or-map, get_or-append_right, get_or-take, length-map, length-drop, length-take}
use Rattle.cx_grid.specs.declared.boxes.Point.{Point}
use Rattle.cx_grid.specs.Boxes.{IsIn}
use Rattle.cx_grid.specs.Grid.{whole, is_boundary, at}
use Rattle.cx_ascii.specs.Output.{section, line}
use Rattle.cx_plan.specs.declared.variable.VarId.{VarId}
use Rattle.cx_plan.specs.declared.item.Region.TheVariants.{Everywhere}
use Rattle.cx_plan.specs.declared.item.Touch.{Touch}
use Rattle.cx_plan.specs.declared.item.Item.{Item}
use Rattle.cx_plan.specs.declared.flag.Flag.{Flag}
use Rattle.cx_plan.specs.declared.flag.Flag.TheVariants.{I, B, S}
use Rattle.cx_plan.specs.Setups.{Setup}
use Rattle.cx_plan.specs.Lookups.{variable, no_variable, no_item, is_scalar, levels_of}
use Rattle.cx_plan.specs.Regions.{Flags, is_among, is_G, exchanged, rotated, output_needs}
use Rattle.cx_rule.specs.States.{State, level_of, scalar_of, rotated_levels, rotate}
use Rattle.cx_model.specs.States.{IsState}
use Rattle.cx_model.specs.Runs.{text_of}
use Rattle.cx_model.proofs.StateLaws.{rotate_keeps}
use Rattle.cx_model.specs.Agreement.{Agree, Met, is_told}
use Rattle.cx_model.proofs.TurnLaws.{RowMet, plain, first-met, second-met, told-all}
use Rattle.cx_model.proofs.CellLaws.{same-level}

-- ---- exchanges

exchanged-other : (vars : List VarId) (flags : Flags) (v : VarId) (level : ℕ) (f : Flag)
    → is_G f ≡ false → exchanged vars flags v level f ≡ flags v level f
exchanged-other vars flags v level f other = by (is_among v vars && level == 0) (is_G f) other
  where
    by : (c g : Bool) → g ≡ false → ((c && g) || flags v level f) ≡ flags v level f
    by true false e = refl
    by false false e = refl
    by c true e = absurd (false≢true (sym e))

pub agree-exchanged : (setup : Setup) (flags : Flags) (vars : List VarId) (a b : State)
    → Agree setup flags a b → Agree setup (exchanged vars flags) a b
agree-exchanged setup flags vars a b agree =
    record {
      first = agree.first;
      second = agree.second;
      points = λ v level p is h told. agree.points v level p is h (sym (same v level p) ∙ told);
      scalars = λ v level is told.
          agree.scalars v level is (sym (exchanged-other vars flags v level S refl) ∙ told);
    }
  where
    same : (v : VarId) (level : ℕ) (p : Point)
        → is_told setup (exchanged vars flags) v level p ≡ is_told setup flags v level p
    same v level p = rw (
      exchanged-other vars flags v level B refl,
      exchanged-other vars flags v level I refl,
    ) refl

-- ---- rotation

-- the levels of a variable
levels-count : (setup : Setup) (s : State) (v : VarId) → IsState setup s
    → length (get_or s v.0 []) ≡ levels_of setup v
levels-count setup s v is =
    elim (cases_lt v.0 (length setup.vars)) [
      | inl there ↦ is.levels v there
      | inr past ↦
          ap length (get_or_past s v.0 [] (let e = is.vars in omega (arith, e, past)))
          ∙ sym (ap (λ x. x.levels) (get_or_past setup.vars v.0 no_variable past))
    ]

rotated-at : (s : State) (i : ℕ) → get_or (rotate s) i [] ≡ rotated_levels (get_or s i [])
rotated-at s i =
    elim (cases_lt i (length s)) [
      | inl there ↦ get_or-map rotated_levels s i [] [] there
      | inr past ↦
          get_or_past (rotate s) i []
          (let e = length-map s rotated_levels in omega (arith, e, past))
          ∙ sym (ap rotated_levels (get_or_past s i [] past))
    ]

-- one level stays
rotated-one : {A : Type 0} (xs : List A) → length xs ≤ 1
    → drop (length xs - 1) xs ++ take (length xs - 1) xs ≡ xs
rotated-one [] few = refl
rotated-one (x ∷ []) few = refl
rotated-one (x ∷ y ∷ xs) few = absurd (omega (arith, few))

-- a level behind the first one
rotated-later : {A : Type 0} (xs : List (List A)) (j : ℕ) → 1 < length xs
    → get_or (drop (length xs - 1) xs ++ take (length xs - 1) xs) (suc j) []
    ≡ get_or (take (length xs - 1) xs) j []
rotated-later xs j some =
    let last : length (drop (length xs - 1) xs) ≡ length xs - (length xs - 1) =
    length-drop (length xs - 1) xs in
    get_or-append_right (drop (length xs - 1) xs) (take (length xs - 1) xs) 1 (suc j) []
    (omega (arith, last, some)) (omega arith)
    ∙ ap (λ i. get_or (take (length xs - 1) xs) i []) (let e : suc j - 1 ≡ j = omega arith in e)

level-later : (s : State) (v : VarId) (j : ℕ) → 1 < length (get_or s v.0 [])
    → level_of (rotate s) v (suc j)
    ≡ get_or (take (length (get_or s v.0 []) - 1) (get_or s v.0 [])) j []
level-later s v j some =
    ap (λ levels. get_or levels (suc j) []) (rotated-at s v.0)
    ∙ rotated-later (get_or s v.0 []) j some

-- the next newer level, where there is one
level-newer : (s : State) (v : VarId) (j n : ℕ) → length (get_or s v.0 []) ≡ n → 1 < n → j < n - 1
    → level_of (rotate s) v (suc j) ≡ level_of s v j
level-newer s v j n many some below =
    level-later s v j (omega (arith, many, some))
    ∙ get_or-take (length (get_or s v.0 []) - 1) (get_or s v.0 []) j []
    (omega (arith, many, below))

level-past : (s : State) (v : VarId) (j n : ℕ) → length (get_or s v.0 []) ≡ n → 1 < n → n - 1 ≤ j
    → level_of (rotate s) v (suc j) ≡ []
level-past s v j n many some past =
    level-later s v j (omega (arith, many, some))
    ∙ get_or_past (take (length (get_or s v.0 []) - 1) (get_or s v.0 [])) j []
    (let e = length-take (length (get_or s v.0 []) - 1) (get_or s v.0 []) in
    omega (arith, e, many, past))

level-stays : (s : State) (v : VarId) (level : ℕ) → length (get_or s v.0 []) ≤ 1
    → level_of (rotate s) v level ≡ level_of s v level
level-stays s v level few =
    ap (λ levels. get_or levels level []) (rotated-at s v.0 ∙ rotated-one (get_or s v.0 []) few)

pub agree-rotated : (setup : Setup) (flags : Flags) (a b : State)
    → ((v : VarId) → is_scalar setup v ≡ true → levels_of setup v ≤ 1) → Agree setup flags a b
    → Agree setup (rotated setup flags) (rotate a) (rotate b)
agree-rotated setup flags a b one_level agree =
    record {
      first = rotate_keeps setup a agree.first;
      second = rotate_keeps setup b agree.second;
      points = λ v level p is h told.
          points v level p (nat_lt 1 (levels_of setup v)) refl is h told;
      scalars = λ v level is told. scalars v level (nat_lt 1 (levels_of setup v)) refl is told;
    }
  where
    count : (s : State) (v : VarId) → IsState setup s → length (get_or s v.0 []) ≡ levels_of setup v
    count s v is = levels-count setup s v is

    few : (s : State) (v : VarId) → IsState setup s → nat_lt 1 (levels_of setup v) ≡ false
        → length (get_or s v.0 []) ≤ 1
    few s v is not_many = let e = count s v is in
        let f = ltb-false 1 (levels_of setup v) not_many in omega (arith, e, f)

    kept : (v : VarId) (level : ℕ) (f : Flag) → nat_lt 1 (levels_of setup v) ≡ false
        → rotated setup flags v level f ≡ flags v level f
    kept v level f not_many = rw not_many refl

    none-told : (p : Point) → cond (is_boundary setup.shape p) false false ≡ true → ⊥
    none-told p e = by (is_boundary setup.shape p) e
      where
        by : (t : Bool) → cond t false false ≡ true → ⊥
        by true e = false≢true e
        by false e = false≢true e

    points : (v : VarId) (level : ℕ) (p : Point) (many : Bool) → nat_lt 1 (levels_of setup v) ≡ many
        → is_scalar setup v ≡ false → IsIn (whole setup.shape) p
        → is_told setup (rotated setup flags) v level p ≡ true
        → at setup.shape (level_of (rotate a) v level) p
        ≡ at setup.shape (level_of (rotate b) v level) p
    points v level p false not_many is h told =
        ap (λ l. at setup.shape l p) (level-stays a v level (few a v agree.first not_many))
        ∙ agree.points v level p is h (sym (told-kept v level p not_many) ∙ told)
        ∙ ap (λ l. at setup.shape l p) (sym (level-stays b v level (few b v agree.second not_many)))
      where
        told-kept : (v : VarId) (level : ℕ) (p : Point) → nat_lt 1 (levels_of setup v) ≡ false
            → is_told setup (rotated setup flags) v level p ≡ is_told setup flags v level p
        told-kept v level p not_many = rw (kept v level B not_many, kept v level I not_many) refl
    points v zero p true many is h told = absurd (none-told p (sym (rw many refl) ∙ told))
    points v (suc j) p true many is h told =
        let some = ltb-true 1 (levels_of setup v) many in
        elim (cases_lt j (levels_of setup v - 1)) [
          | inl there ↦
              ap (λ l. at setup.shape l p)
              (level-newer a v j (levels_of setup v) (count a v agree.first) some there)
              ∙ agree.points v j p is h (sym (rw many refl) ∙ told)
              ∙ ap (λ l. at setup.shape l p)
              (sym (level-newer b v j (levels_of setup v) (count b v agree.second) some there))
          | inr past ↦
              ap (λ l. at setup.shape l p)
              (level-past a v j (levels_of setup v) (count a v agree.first) some past
              ∙ sym (level-past b v j (levels_of setup v) (count b v agree.second) some past))
        ]

    scalars : (v : VarId) (level : ℕ) (many : Bool) → nat_lt 1 (levels_of setup v) ≡ many
        → is_scalar setup v ≡ true → rotated setup flags v level S ≡ true
        → scalar_of (rotate a) v ≡ scalar_of (rotate b) v
    scalars v level true many is told = let e = one_level v is in
        let f = ltb-true 1 (levels_of setup v) many in absurd (omega (arith, e, f))
    scalars v level false not_many is told =
        ap (λ l. get_or l 0 (pos 0)) (level-stays a v 0 (few a v agree.first not_many))
        ∙ agree.scalars v level is (sym (kept v level S not_many) ∙ told)
        ∙ ap (λ l. get_or l 0 (pos 0)) (sym (level-stays b v 0 (few b v agree.second not_many)))

-- ---- tests and texts

abbrev whole_read : VarId → Touch
whole_read v = record { var = v; level = 0; region = Everywhere; reach = 0 }

pub tested-same : (setup : Setup) (flags : Flags) (v : VarId) (place : List ℕ) (a b : State)
    → is_scalar setup v ≡ true → Agree setup flags a b
    → Met setup flags (record { place = place; var = v; level = 0; flag = S } ∷ [])
    → scalar_of a v ≡ scalar_of b v
tested-same setup flags v place a b scalar agree met =
    agree.scalars v 0 scalar
    (plain setup flags (record no_item { path = place }) (whole_read v) S refl
    (first-met setup flags (record no_item { path = place }) (whole_read v) S [] met))

pub text-same : (setup : Setup) (flags : Flags) (iteration : ℕ) (v : VarId) (a b : State)
    → Agree setup flags a b → Met setup flags (output_needs setup v)
    → text_of setup iteration a v ≡ text_of setup iteration b v
text-same setup flags iteration v a b agree met = by (is_scalar setup v) refl
  where
    x : Item
    x = record no_item { path = codes "output" }

    by : (s : Bool) → is_scalar setup v ≡ s
        → text_of setup iteration a v ≡ text_of setup iteration b v
    by true is =
        rw is (ap (line (variable setup v).full iteration)
        (tested-same setup flags v (codes "output") a b is agree
        (subst (λ s. RowMet setup flags x (whole_read v) (Some (if s then S ∷ [] else I ∷ B ∷ [])))
        is met)))
    by false is =
        let mine =
        subst (λ s. RowMet setup flags x (whole_read v)
        (Some (if s then S ∷ [] else I ∷ B ∷ []))) is met in
        rw is (ap (section (variable setup v).full iteration setup.shape)
        (same-level setup flags a b v 0 agree is
        (told-all setup flags x (whole_read v)
        (first-met setup flags x (whole_read v) I (B ∷ []) mine)
        (second-met setup flags x (whole_read v) I B [] mine))))
