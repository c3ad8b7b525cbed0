-- What holds of all levels of a variable.
use Rattle.std.proofs.Common.{◌≡◌, ◌≢◌, refl, sym, ap, subst, ◌∙◌, ℕ, ◌-◌, ◌<◌, inl, inr, true, false, ℤ, List, [], length, take, drop, get_or, set, replicate, arith}
use Rattle.std.specs.List.{All}
use Rattle.std.proofs.lemmas.Bool.{cases_eq, cases_lt, false≢true}
use Rattle.std.proofs.lemmas.List.{get_or-map, get_or_past, get_or-set_same, get_or-set_other, get_or-replicate, length-map, length-set, length-replicate}
use Rattle.std.proofs.lemmas.List.Elements.{All-nil, All-append, All-set, All-take, All-drop, All-replicate, All-get_or}
use Rattle.cx_plan.specs.declared.variable.VarId.{VarId}
use Rattle.cx_plan.specs.Setups.{Setup}
use Rattle.cx_plan.specs.Lookups.{variable, no_variable, levels_of, is_scalar}
use Rattle.cx_rule.specs.States.{State, level_of, with_level, rotated_levels, rotate}
use Rattle.cx_model.specs.States.{IsState, number_count}

-- each level of a variable has it
pub record Holds (P : List ℤ → Type 0) (state : State) (v : VarId) : Type 0 where
  pub levels : All P (get_or state v.0 [])

-- ---- rotation

rotated_all : (P : List ℤ → Type 0) (levels : List (List ℤ)) → All P levels
    → All P (rotated_levels levels)
rotated_all P levels each =
    All-append P (drop (length levels - 1) levels) (take (length levels - 1) levels)
    (All-drop P (length levels - 1) levels each) (All-take P (length levels - 1) levels each)

pub rotate_holds : (P : List ℤ → Type 0) (state : State) (v : VarId) → Holds P state v
    → Holds P (rotate state) v
rotate_holds P state v has =
    elim (cases_lt v.0 (length state)) [
      | inl there ↦ record {
        levels = subst (All P) (sym (get_or-map rotated_levels state v.0 [] [] there))
            (rotated_all P (get_or state v.0 []) has.levels);
      }
      | inr past ↦ record {
        levels = subst (All P)
            (sym (get_or_past (rotate state) v.0 []
            (let e = length-map state rotated_levels in omega (arith, e, past))))
            (All-nil P);
      }
    ]

-- ---- other numbers in one level

pub write_holds : (P : List ℤ → Type 0) (state : State) (w v : VarId) (level : ℕ)
    (numbers : List ℤ) → (w.0 ≡ v.0 → P numbers) → Holds P state v
    → Holds P (with_level state w level numbers) v
write_holds P state w v level numbers new has =
    let next = set (get_or state w.0 []) level numbers in
    elim (cases_eq v.0 w.0) [
      | inl same ↦
          elim (cases_lt w.0 (length state)) [
            | inl there ↦ record {
              levels = subst (All P)
                  (sym (ap (λ i. get_or (set state w.0 next) i []) same
                  ∙ get_or-set_same state w.0 next [] there))
                  (All-set P (get_or state w.0 []) level numbers (new (sym same))
                  (subst (λ i. All P (get_or state i [])) same has.levels));
            }
            | inr past ↦ record {
              levels = subst (All P)
                  (sym (get_or_past (set state w.0 next) v.0 []
                  (let e = length-set state w.0 next in omega (arith, e, past, same))))
                  (All-nil P);
            }
          ]
      | inr other ↦ record {
        levels = subst (All P) (sym (get_or-set_other state w.0 v.0 next [] other)) has.levels;
      }
    ]

-- a level that is stored
pub level_holds : (P : List ℤ → Type 0) (setup : Setup) (state : State) (v : VarId) (level : ℕ)
    → IsState setup state → v.0 < length setup.vars → level < levels_of setup v
    → Holds P state v → P (level_of state v level)
level_holds P setup state v level is there stored has =
    All-get_or P (get_or state v.0 []) level []
    (subst (λ n. level < n) (sym (is.levels v there)) stored) has.levels

-- ---- all levels of a variable anew

pub refill : Setup → State → VarId → List ℤ → State
refill setup state v numbers = set state v.0 (replicate (levels_of setup v) numbers)

unfolded : (setup : Setup) (state : State) (v : VarId) (numbers : List ℤ)
    → refill setup state v numbers ≡ set state v.0 (replicate (levels_of setup v) numbers)
unfolding refill
unfolded setup state v numbers = refl

refilled_at : (setup : Setup) (state : State) (v : VarId) (numbers : List ℤ) → IsState setup state
    → v.0 < length setup.vars
    → get_or (refill setup state v numbers) v.0 [] ≡ replicate (levels_of setup v) numbers
refilled_at setup state v numbers is there =
    ap (λ (s : State). get_or s v.0 []) (unfolded setup state v numbers)
    ∙ get_or-set_same state v.0 (replicate (levels_of setup v) numbers) []
    (subst (λ n. v.0 < n) (sym is.vars) there)

refilled_other : (setup : Setup) (state : State) (v : VarId) (numbers : List ℤ) (i : ℕ) → i ≢ v.0
    → get_or (refill setup state v numbers) i [] ≡ get_or state i []
refilled_other setup state v numbers i other =
    ap (λ (s : State). get_or s i []) (unfolded setup state v numbers)
    ∙ get_or-set_other state v.0 i (replicate (levels_of setup v) numbers) [] other

pub refill_keeps : (setup : Setup) (state : State) (v : VarId) (numbers : List ℤ)
    → IsState setup state → v.0 < length setup.vars
    → length numbers ≡ number_count setup (variable setup v)
    → IsState setup (refill setup state v numbers)
refill_keeps setup state v numbers is there size =
    let next = refill setup state v numbers in
    record {
      vars = ap length (unfolded setup state v numbers)
          ∙ length-set state v.0 (replicate (levels_of setup v) numbers) ∙ is.vars;
      levels = λ w h. elim (cases_eq w.0 v.0) [
        | inl same ↦
            subst (λ i. length (get_or next i []) ≡ (get_or setup.vars i no_variable).levels)
            (sym same) (ap length (refilled_at setup state v numbers is there)
            ∙ length-replicate (levels_of setup v) numbers)
        | inr other ↦ ap length (refilled_other setup state v numbers w.0 other) ∙ is.levels w h
      ];
      numbers = λ w level h k. elim (cases_eq w.0 v.0) [
        | inl same ↦
            subst (λ i. level < (get_or setup.vars i no_variable).levels
            → length (get_or (get_or next i []) level [])
            ≡ number_count setup (get_or setup.vars i no_variable))
            (sym same)
            (λ below. ap (λ levels. length (get_or levels level []))
            (refilled_at setup state v numbers is there)
            ∙ ap length (get_or-replicate (levels_of setup v) level numbers [] below) ∙ size) k
        | inr other ↦
            ap (λ levels. length (get_or levels level []))
            (refilled_other setup state v numbers w.0 other) ∙ is.numbers w level h k
      ];
    }

pub refill_holds : (P : List ℤ → Type 0) (setup : Setup) (state : State) (v : VarId)
    (numbers : List ℤ) → IsState setup state → v.0 < length setup.vars → P numbers
    → Holds P (refill setup state v numbers) v
refill_holds P setup state v numbers is there has =
    record {
      levels = subst (All P) (sym (refilled_at setup state v numbers is there))
          (All-replicate P (levels_of setup v) numbers has);
    }

pub refill_leaves : (P : List ℤ → Type 0) (setup : Setup) (state : State) (v w : VarId)
    (numbers : List ℤ) → w.0 ≢ v.0 → Holds P state w
    → Holds P (refill setup state v numbers) w
refill_leaves P setup state v w numbers other has =
    record {
      levels = subst (All P) (sym (refilled_other setup state v numbers w.0 other)) has.levels;
    }

-- ---- variables of different names, and of different kinds

pub apart_by_name : (setup : Setup) (v w : VarId) (one two : List ℕ)
    → (variable setup v).full ≡ one → (variable setup w).full ≡ two → (one ≡ two → ⊥) → v.0 ≢ w.0
apart_by_name setup v w one two p q differ same =
    differ (sym p ∙ ap (λ i. (get_or setup.vars i no_variable).full) same ∙ q)

pub apart_by_kind : (setup : Setup) (v w : VarId) → is_scalar setup v ≡ false
    → is_scalar setup w ≡ true → v.0 ≢ w.0
apart_by_kind setup v w p q same =
    false≢true (sym p ∙ ap (λ i. (get_or setup.vars i no_variable).scalar) same ∙ q)

-- a level that was written
pub level_written : (setup : Setup) (state : State) (v : VarId) (numbers : List ℤ)
    → IsState setup state → v.0 < length setup.vars → 0 < levels_of setup v
    → level_of (with_level state v 0 numbers) v 0 ≡ numbers
level_written setup state v numbers is there stored =
    ap (λ levels. get_or levels 0 [])
    (get_or-set_same state v.0 (set (get_or state v.0 []) 0 numbers) []
    (subst (λ n. v.0 < n) (sym is.vars) there))
    ∙ get_or-set_same (get_or state v.0 []) 0 numbers []
    (subst (λ n. 0 < n) (sym (is.levels v there)) stored)
