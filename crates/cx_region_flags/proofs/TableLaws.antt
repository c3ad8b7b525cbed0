-- Flags in cells: several steps one after another, and rotation.
use Rattle.std.proofs.Common.{◌≡◌, ◌≢◌, ℕ, zero, suc, ◌+◌, ◌-◌, ◌*◌, ◌/◌, ◌%◌, ◌<◌, ◌≤◌, Bool, true, false, ◌&&◌, ◌||◌, cond, eqb, ltb, refl, sym, ap, subst, ◌∙◌, List, [], ◌∷◌, length, get_or, ◌⊎◌, inl, inr, arith}
use Rattle.std.proofs.Math.ListN.{set, length-set}
use Rattle.std.proofs.lemmas.Bool.{cases_lt}
use Rattle.std.proofs.lemmas.Bool.Decides.{nat_tests}
use Rattle.std.proofs.lemmas.List.{get_or-set_other}
use Rattle.std.proofs.lemmas.Grind.{get_or-set_at}
use Rattle.std.specs.Prelude.{◌==◌, if◌then◌else◌}
use Rattle.cx_plan.specs.declared.flag.Flag.{Flag}
use Rattle.cx_plan.specs.declared.flag.Flag.TheVariants.{I, B, G, S}
use Rattle.cx_plan.specs.declared.variable.VarId.{VarId}
use Rattle.cx_plan.specs.declared.item.Touch.{Touch}
use Rattle.cx_plan.specs.Setups.{Setup}
use Rattle.cx_plan.specs.Lookups.{is_scalar, levels_of, no_variable}
use Rattle.cx_plan.specs.Regions.{Flags, is_among, is_G, after_scalar, after_write, written, all_written, exchanged, newer_level, rotated, same_variable}
use Rattle.cx_region_flags.specs.declared.flags.LevelFlags.{LevelFlags}
use Rattle.cx_region_flags.specs.Cells.{none_set, flag_of, cell, place, flags_in, IsKept, Holds, cell_after}

-- ---- steps, one after another

-- what several steps make of flags is told by what each makes, level by level
pub record Runs {X : Type 0} (after : List X → Flags → Flags) : Type 0 where
  pub none : (F : Flags) (v : VarId) (level : ℕ) (f : Flag) → after [] F v level f ≡ F v level f
  pub more : (x : X) (xs : List X) (F H : Flags) (v : VarId) (level : ℕ)
      → ((f : Flag) → H v level f ≡ after (x ∷ []) F v level f) → (f : Flag)
      → after xs H v level f ≡ after (x ∷ xs) F v level f

-- the state of a loop over steps
pub record Passed {X : Type 0} (after : List X → Flags → Flags) (first now : List LevelFlags)
    (all rest : List X) : Type 0 where
  pub same_length : length now ≡ length first
  pub same : (v : VarId) (level : ℕ) (f : Flag) → IsKept first v level
      → after rest (flags_in now) v level f ≡ after all (flags_in first) v level f

still_kept : (old new : List LevelFlags) (v : VarId) (level : ℕ) → length new ≡ length old
    → IsKept old v level → IsKept new v level
still_kept old new v level same kept =
    record { few = kept.few; there = subst (λ n. place v level < n) (sym same) kept.there }

pub passed-next : {X : Type 0} (after : List X → Flags → Flags) (first now new : List LevelFlags)
    (all rest more : List X) (x : X) → Runs after → rest ≡ x ∷ more
    → Holds now new (after (x ∷ []) (flags_in now)) → Passed after first now all rest
    → Passed after first new all more
passed-next after first now new all rest more x runs parts held p =
    record {
      same_length = held.same_length ∙ p.same_length;
      same = λ v level f kept.
          let kept_now = still_kept first now v level p.same_length kept in
          runs.more x more (flags_in now) (flags_in new) v level
          (λ f. held.same_flags v level f kept_now) f
          ∙ ap (λ xs. after xs (flags_in now) v level f) (sym parts)
          ∙ p.same v level f kept;
    }

pub passed-all : {X : Type 0} (after : List X → Flags → Flags) (first now : List LevelFlags)
    (all rest : List X) → Runs after → rest ≡ [] → Passed after first now all rest
    → Holds first now (after all (flags_in first))
passed-all after first now all rest runs none p =
    record {
      same_length = p.same_length;
      same_flags = λ v level f kept. sym (runs.none (flags_in now) v level f)
          ∙ ap (λ xs. after xs (flags_in now) v level f) (sym none) ∙ p.same v level f kept;
    }

written-same : (setup : Setup) (w : Touch) (F H : Flags) (v : VarId) (level : ℕ) (f : Flag)
    → F v level f ≡ H v level f → written setup F w v level f ≡ written setup H w v level f
written-same setup w F H v level f h =
    ap (λ t. if same_variable v w.var && level == w.level
    then (if is_scalar setup v then after_scalar f t else after_write w.region f t) else t) h

pub all_written-same : (setup : Setup) (ws : List Touch) (F H : Flags) (v : VarId) (level : ℕ)
    → ((f : Flag) → F v level f ≡ H v level f) → (f : Flag)
    → all_written setup ws F v level f ≡ all_written setup ws H v level f
all_written-same setup [] F H v level h f = h f
all_written-same setup (w ∷ ws) F H v level h f =
    all_written-same setup ws (written setup F w) (written setup H w) v level
    (λ f. written-same setup w F H v level f (h f)) f

pub writes-run : (setup : Setup) → Runs (all_written setup)
writes-run setup =
    record {
      none = λ F v level f. refl;
      more = λ x xs F H v level h f. all_written-same setup xs H (written setup F x) v level h f;
    }

regrouped : (a b c d o : Bool)
    → (((a && c) && d) || ((((b || false) && c) && d) || o)) ≡ ((((b || a) && c) && d) || o)
regrouped true true c d o = twice (c && d) o
  where
    twice : (t o : Bool) → (t || (t || o)) ≡ (t || o)
    twice true o = refl
    twice false o = refl
regrouped true false c d o = refl
regrouped false true c d o = refl
regrouped false false c d o = refl

pub exchanges-run : Runs exchanged
exchanges-run =
    record {
      none = λ F v level f. refl;
      more = λ x xs F H v level h f.
          ap (λ t. (is_among v xs && level == 0 && is_G f) || t) (h f)
          ∙ regrouped (is_among v xs) (same_variable v x) (eqb level 0) (is_G f) (F v level f);
    }

-- ---- rotation

-- the cells from a place on are rotated, and those before it stand as they were
pub record Rotating (setup : Setup) (first now : List LevelFlags) (from : ℕ) : Type 0 where
  pub same_length : length now ≡ length first
  pub within : from ≤ length first
  pub before : (k : ℕ) → k < from → cell now k ≡ cell first k
  pub after : (k : ℕ) → from ≤ k → k < length first → cell now k ≡ cell_after setup first k

pub rotating-none : (setup : Setup) (first : List LevelFlags)
    → Rotating setup first first (length first)
rotating-none setup first =
    record {
      same_length = refl;
      within = omega arith;
      before = λ k h. refl;
      after = λ k low high. absurd (omega arith);
    }

pub cell_after-same : (setup : Setup) (a b : List LevelFlags) (k : ℕ) → cell a k ≡ cell b k
    → cell a (k - 1) ≡ cell b (k - 1) → cell_after setup a k ≡ cell_after setup b k
cell_after-same setup a b k here front =
    ap (λ (x : LevelFlags).
    cond (ltb 1 (get_or setup.vars (k / 8) no_variable).levels)
    (cond (eqb (k % 8) 0) none_set x) (cell a k)) front
    ∙ ap (λ (x : LevelFlags).
    cond (ltb 1 (get_or setup.vars (k / 8) no_variable).levels)
    (cond (eqb (k % 8) 0) none_set (cell b (k - 1))) x) here

pub rotating-next : (setup : Setup) (first now : List LevelFlags) (from : ℕ) → 0 < from
    → Rotating setup first now from
    → Rotating setup first (set now (from - 1) (cell_after setup now (from - 1))) (from - 1)
rotating-next setup first now from some r =
    let p = from - 1 in
    let y = cell_after setup now p in
    record {
      same_length = length-set now p y ∙ r.same_length;
      within = omega (arith, r.within);
      before = λ k h.
          let other : k ≢ p = omega arith in
          get_or-set_other now p k y none_set other ∙ r.before k (omega arith);
      after = λ k low high. cases k low high (cases_lt p k);
    }
  where
    cases : (k : ℕ) → from - 1 ≤ k → k < length first → (from - 1 < k) ⊎ (k ≤ from - 1)
        → cell (set now (from - 1) (cell_after setup now (from - 1))) k ≡ cell_after setup first k
    cases k low high (inl more) =
        let other : k ≢ from - 1 = omega arith in
        get_or-set_other now (from - 1) k (cell_after setup now (from - 1)) none_set other
        ∙ r.after k (omega arith) high
    cases k low high (inr same) =
        let at : k ≡ from - 1 = omega arith in
        let in_now : from - 1 < length now =
        subst (λ n. from - 1 < n) (sym r.same_length) (omega (arith, r.within)) in
        get_or-set_at now (from - 1) k (cell_after setup now (from - 1)) none_set at in_now
        ∙ cell_after-same setup now first (from - 1) (r.before (from - 1) (omega arith))
        (r.before (from - 1 - 1) (omega arith))
        ∙ ap (cell_after setup first) (sym at)

row_of : (v level : ℕ) → level < 8 → (8 * v + level) / 8 ≡ v
row_of v level few = omega arith

column_of : (v level : ℕ) → level < 8 → (8 * v + level) % 8 ≡ level
column_of v level few = omega arith

pub flag-none : (f : Flag) → flag_of none_set f ≡ false
flag-none I = refl
flag-none B = refl
flag-none G = refl
flag-none S = refl

not_zero : (n : ℕ) → eqb (suc n) 0 ≡ false
not_zero n = grind (arith, nat_tests)

by_level : (cells : List LevelFlags) (v : VarId) (level : ℕ) (f : Flag)
    → flag_of (cond (eqb level 0) none_set (cell cells (place v level - 1))) f
    ≡ newer_level (flags_in cells) v level f
by_level cells v zero f = flag-none f
by_level cells v (suc level) f =
    let at : place v (suc level) - 1 ≡ place v level = omega arith in
    ap (λ t. flag_of (cond t none_set (cell cells (place v (suc level) - 1))) f) (not_zero level)
    ∙ ap (λ k. flag_of (cell cells k) f) at

rotated-cell : (setup : Setup) (cells : List LevelFlags) (v : VarId) (level : ℕ) (f : Flag)
    → level < 8 → flag_of (cell_after setup cells (place v level)) f
    ≡ rotated setup (flags_in cells) v level f
rotated-cell setup cells v level f few =
    let k = place v level in
    ap (λ n. flag_of (cond (ltb 1 (get_or setup.vars n no_variable).levels)
    (cond (eqb (k % 8) 0) none_set (cell cells (k - 1))) (cell cells k)) f)
    (row_of v.0 level few)
    ∙ ap (λ n. flag_of (cond (ltb 1 (levels_of setup v))
    (cond (eqb n 0) none_set (cell cells (k - 1))) (cell cells k)) f) (column_of v.0 level few)
    ∙ choice (ltb 1 (levels_of setup v)) (cond (eqb level 0) none_set (cell cells (k - 1)))
    (cell cells k)
    ∙ ap (λ t. cond (ltb 1 (levels_of setup v)) t (flags_in cells v level f))
    (by_level cells v level f)
  where
    choice : (t : Bool) (a b : LevelFlags)
        → flag_of (cond t a b) f ≡ cond t (flag_of a f) (flag_of b f)
    choice true a b = refl
    choice false a b = refl

pub rotating-all : (setup : Setup) (first now : List LevelFlags) (from : ℕ) → from ≤ 0
    → Rotating setup first now from → Holds first now (rotated setup (flags_in first))
rotating-all setup first now from none r =
    record {
      same_length = r.same_length;
      same_flags = λ v level f kept.
          ap (λ (x : LevelFlags). flag_of x f) (r.after (place v level) (omega arith) kept.there)
          ∙ rotated-cell setup first v level f kept.few;
    }
