-- From what the top call ensures to what its status says of the words.
use Rattle.std.proofs.Common.{◌≡◌, ◌⊎◌, ℕ, List, Result, Ok, Err, IfOk, inl, inr, sym, subst, arith}
use Rattle.std.specs.Prelude.{true, false}
use Rattle.cx_rule.specs.Routine.{Rule}
use Rattle.cx_rule.specs.declared.spec.Spec.{Spec}
use Rattle.cx_run.specs.Answers.{IsStatusFor}
use Rattle.cx_run.specs.Calls.{Lent, Call}
use Rattle.cx_run.specs.Clauses.{Obeys}
use Rattle.cx_run.proofs.Readings.{status_for}
use Rattle.cx_several.specs.Batches.{Batch}
use Rattle.cx_several.specs.Clauses.{ObeysAll, OnFirst}
use Rattle.cx_several.specs.Statuses.{IsBatchStatus, IsStatusForAll}
use Rattle.cx_several.specs.Words.{begins_batch}
use Rattle.cx_several.proofs.FirstLaws.{first_holds}
use Rattle.cx_several.proofs.StatusLaws.{batch_status}

-- what holds with a call's own routines holds with the sample thorns'
pub with_samples :
    (By : List Rule → List Spec → Type 0) (rules sample_rules : List Rule)
    (specs sample_specs : List Spec)
    → rules ≡ sample_rules → specs ≡ sample_specs → By rules specs → By sample_rules sample_specs
with_samples By rules sample_rules specs sample_specs same_rules same_specs by =
    subst (λ (ss : List Spec). By sample_rules ss) same_specs
    (subst (λ (rs : List Rule). By rs specs) same_rules by)

-- the status of a call is one for its words
module _ {D W : Type 0} (words : List (List ℕ)) (b : Batch D W) (sink : Lent (List ℕ))
    (call : D → D → W → W → Call)
    (same : (was is : D) (v u : W) → (call was is v u).words ≡ words) where
  one_status : (s : ℕ) (was is : List D) (vs us : List W)
      → OnFirst (λ a b v u. Obeys (call a b v u) sink s) was is vs us → IsStatusFor words s
  one_status s = first_holds (λ a b v u. Obeys (call a b v u) sink s) (IsStatusFor words s)
      (λ a b v u obeys. subst (λ (ws : List (List ℕ)). IsStatusFor ws s) (same a b v u)
      (status_for (call a b v u) sink s obeys))

  pub status_of_answer : {E : Type 0} (result : Result ℕ E) (was is : List D) (vs us : List W)
      → IfOk result (λ s. begins_batch words ≡ true → ObeysAll words b sink s)
      → IfOk result (λ s. begins_batch words ≡ false
      → OnFirst (λ a b v u. Obeys (call a b v u) sink s) was is vs us)
      → IfOk result (IsStatusForAll words)
  status_of_answer (Ok s) was is vs us several one = record {
    several = λ batch. batch_status words b sink s (several batch);
    one = λ other. one_status s was is vs us (one other);
  }
  status_of_answer (Err e) was is vs us several one = tt

-- ---- want of memory

not_other : (s : ℕ) → s ≡ 5
    → (s ≡ 0) ⊎ ((s ≡ 2) ⊎ ((s ≡ 3) ⊎ ((s ≡ 6) ⊎ (s ≡ 7)))) → ⊥
not_other s e (inl f) = omega (arith, e, f)
not_other s e (inr (inl f)) = omega (arith, e, f)
not_other s e (inr (inr (inl f))) = omega (arith, e, f)
not_other s e (inr (inr (inr (inl f)))) = omega (arith, e, f)
not_other s e (inr (inr (inr (inr f)))) = omega (arith, e, f)

wanting_one : (words : List (List ℕ)) (s : ℕ) → s ≡ 5 → IsStatusFor words s
wanting_one words s five =
    record {
      known = inr (inr (inr (inr (inr (inl five)))));
      wrong_use = λ wrong. inr (inr five);
      usage = λ e. absurd (omega (arith, five, e));
      other = λ e. absurd (not_other s five e);
      plain = λ r asks none. inr (inr (inr five));
      chunks = λ r asks on. inl (inr (inr (inr five)));
      refused = λ r asks e. absurd (omega (arith, five, e));
    }

wanting_batch : (words : List (List ℕ)) (s : ℕ) → s ≡ 5 → IsBatchStatus words s
wanting_batch words s five = record {
  known = omega (arith, five);
  wrong_use = λ wrong. inr (inr five);
  usage = λ e. absurd (omega (arith, five, e));
}

-- it says nothing of the words
pub wanting_status : (words : List (List ℕ)) (s : ℕ) → s ≡ 5 → IsStatusForAll words s
wanting_status words s five = record {
  several = λ batch. wanting_batch words s five;
  one = λ other. wanting_one words s five;
}

pub same_status : (words : List (List ℕ)) (s t : ℕ) → t ≡ s → IsStatusForAll words s
    → IsStatusForAll words t
same_status words s t e is = subst (λ (n : ℕ). IsStatusForAll words n) (sym e) is
