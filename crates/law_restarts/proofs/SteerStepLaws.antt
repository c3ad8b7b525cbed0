-- Steer files that say the same up to an iteration give the same steps and steers up to there.
use Rattle.std.proofs.Common.{◌≡◌, refl, sym, ap, ◌∙◌, ℕ, Bool, true, false, cond, ℤ, List, [], ◌∷◌, ◌++◌, map, filter, Option, Some, None}
use Rattle.std.specs.Prelude.{nat_le, slice_get}
use Rattle.std.specs.List.{flat_map, enumerate_from, AllByRecursion}
use Rattle.cx_text.specs.Lexemes.{same_name}
use Rattle.cx_text.proofs.Holds.{each-append}
use Rattle.cx_plan.specs.Names.{with_owner}
use Rattle.cx_plan.specs.declared.item.Item.{Item}
use Rattle.cx_plan.specs.declared.steered.Steered.{Steered}
use Rattle.cx_parfile.specs.declared.steer.SteerLine.{SteerLine}
use Rattle.cx_bind.specs.Parameters.{parameters}
use Rattle.cx_bind.specs.declared.thorns.Param.{Param}
use Rattle.cx_bind.specs.declared.thorns.Thorn.{Thorn}
use Rattle.cx_values.specs.Naming.{Names, names}
use Rattle.cx_values.specs.Steering.{step_of, step_at, step_by, steps}
use Rattle.cx_values.specs.declared.steering.SteerStep.{SteerStep}
use Rattle.cx_rule.specs.declared.spec.Spec.{Spec}
use Rattle.cx_job_items.specs.Steered.{slot_names, steer_of, steers_of_item, steers_with, step_number, steers_of_step, steers_by, steers_of}
use Rattle.cx_model.specs.Steers.{steers_to}
use Rattle.law_restarts.specs.Chains.{unplaced, lines_up_to}
use Rattle.law_restarts.proofs.SteerKeyLaws.{kept_of}

-- a test that is the same for all
kept_all : {A : Type 0} (q : A → Bool) (b : Bool) (xs : List A)
    → AllByRecursion (λ x. q x ≡ b) xs → filter q xs ≡ cond b xs []
kept_all {A} q true [] each = refl
kept_all {A} q false [] each = refl
kept_all {A} q true (x ∷ xs) each =
    ap (λ t. cond t (x ∷ filter q xs) (filter q xs)) each.0
    ∙ ap (λ ys. x ∷ ys) (kept_all q true xs each.1)
kept_all {A} q false (x ∷ xs) each =
    ap (λ t. cond t (x ∷ filter q xs) (filter q xs)) each.0 ∙ kept_all q false xs each.1

each_of : {A B : Type 0} (P : B → Type 0) (f : A → List B)
    → ((x : A) → AllByRecursion P (f x)) → (xs : List A) → AllByRecursion P (flat_map f xs)
each_of P f each [] = tt
each_of P f each (x ∷ xs) = each-append P (f x) (flat_map f xs) (each x) (each_of P f each xs)

module _ (c : ℕ) where
  abbrev pub is_early : SteerStep → Bool
  is_early s = nat_le s.at c

  abbrev is_steered : Steered → Bool
  is_steered s = nat_le s.at c

  -- ---- steps

  module _ (ps : List Param) (nm : Names) where
    step_kept : (l : SteerLine)
        → filter is_early (step_by ps nm l) ≡ cond (nat_le l.at c) (step_by ps nm l) []
    step_kept l = by (nm (with_owner l.setting.owner l.setting.name))
      where
        with_param : (n : ℕ) (o : Option Param)
            → AllByRecursion (λ (s : SteerStep). is_early s ≡ nat_le l.at c) (step_of l n o)
        with_param n None = tt
        with_param n (Some p) = (refl, tt)

        by : (o : Option ℕ) → filter is_early (step_at ps l o)
            ≡ cond (nat_le l.at c) (step_at ps l o) []
        by None = kept_all is_early (nat_le l.at c) [] tt
        by (Some n) = kept_all is_early (nat_le l.at c) (step_of l n (slice_get ps n))
            (with_param n (slice_get ps n))

    -- the line of the file makes no difference
    same_unplaced : (ls : List SteerLine)
        → flat_map (step_by ps nm) ls ≡ flat_map (step_by ps nm) (map unplaced ls)
    same_unplaced [] = refl
    same_unplaced (l ∷ ls) = ap (λ ss. step_by ps nm l ++ ss) (same_unplaced ls)

    steps_kept : (ls : List SteerLine) → filter is_early (flat_map (step_by ps nm) ls)
        ≡ flat_map (step_by ps nm) (lines_up_to c ls)
    steps_kept ls =
        kept_of (step_by ps nm) (λ (l : SteerLine). nat_le l.at c) is_early step_kept ls
        ∙ same_unplaced (filter (λ (l : SteerLine). nat_le l.at c) ls)

  pub same_steps : (thorns : List Thorn) (one other : List SteerLine)
      → lines_up_to c one ≡ lines_up_to c other
      → filter is_early (steps thorns one) ≡ filter is_early (steps thorns other)
  unfolding steps
  same_steps thorns one other same =
      steps_kept (parameters thorns) (names thorns) one
      ∙ ap (flat_map (step_by (parameters thorns) (names thorns))) same
      ∙ sym (steps_kept (parameters thorns) (names thorns) other)

  -- ---- steers

  module _ (specs : List Spec) (ps : List Param) (items : List Item) where
    module _ (n : ℕ) where
      abbrev IsOf : Steered → Type 0
      IsOf y = is_steered y ≡ nat_le n c

      slot_at : (full : List ℕ) (value : ℤ) (k : ℕ) (slot : ℕ × List ℕ)
          → AllByRecursion IsOf (steer_of n full value k slot)
      slot_at full value k slot = by (same_name slot.1 full)
        where
          by : (b : Bool) → AllByRecursion IsOf
              (cond b (record { at = n; item = k; slot = slot.0; value = value } ∷ []) [])
          by true = (refl, tt)
          by false = tt

      item_at : (full : List ℕ) (value : ℤ) (x : ℕ × Item)
          → AllByRecursion IsOf (steers_of_item specs n full value x)
      item_at full value x = each_of IsOf (steer_of n full value x.0)
          (slot_at full value x.0) (enumerate_from 0 (slot_names specs x.1))

      number_at : (full : List ℕ) (o : Option ℤ)
          → AllByRecursion IsOf (steers_with specs items n full o)
      number_at full None = tt
      number_at full (Some value) = each_of IsOf (steers_of_item specs n full value)
          (item_at full value) (enumerate_from 0 items)

    step_at_all : (s : SteerStep) (o : Option Param)
        → AllByRecursion (IsOf s.at) (steers_of_step specs items s o)
    step_at_all s None = tt
    step_at_all s (Some p) = number_at s.at p.full (step_number p s)

    steers_kept : (ss : List SteerStep) → steers_to c (steers_of specs ps items ss)
        ≡ steers_of specs ps items (filter is_early ss)
    steers_kept ss = kept_of (steers_by specs ps items) is_early is_steered
        (λ s. kept_all is_steered (nat_le s.at c) (steers_by specs ps items s)
        (step_at_all s (slice_get ps s.param))) ss

    pub same_steers : (one other : List SteerStep)
        → filter is_early one ≡ filter is_early other
        → steers_to c (steers_of specs ps items one) ≡ steers_to c (steers_of specs ps items other)
    same_steers one other same =
        steers_kept one ∙ ap (steers_of specs ps items) same ∙ sym (steers_kept other)
