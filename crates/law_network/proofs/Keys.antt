-- Places kept otherwise than as numbers: where each operation's key is less than the next one's,
-- comparing keys compares places.
use Rattle.std.proofs.Common.{◌≡◌, ℕ, zero, suc, ◌<◌, ◌≤◌, ◌⊎◌, inl, inr, subst, ap, arith, ◌↔◌}
use Rattle.law_network.specs.Machine.{ByLead, InLockstep}
use Rattle.std.proofs.lemmas.Bool.{cases_eq, cases_order}

module _ {Key : Type 0} (Less : Key → Key → Type 0)
    (trans : (a b c : Key) → Less a b → Less b c → Less a c)
    (irreflexive : (a : Key) → Less a a → ⊥) (key : ℕ → Key) (last : ℕ)
    (step : (n : ℕ) → n < last → Less (key n) (key (suc n))) where
  rises : (m n : ℕ) → m < n → n ≤ last → Less (key m) (key n)
  rises m zero l h = absurd (omega arith)
  rises m (suc n) l h = go (rises m n) (cases_eq m n)
    where
      go : (m < n → n ≤ last → Less (key m) (key n)) → (m ≡ n) ⊎ (m ≡ n → ⊥)
          → Less (key m) (key (suc n))
      go more (inl e) = rw e (step n (omega arith))
      go more (inr e) = trans (key m) (key n) (key (suc n)) (more (omega arith) (omega arith))
          (step n (omega arith))

  -- up to the last place
  pub compares : (m n : ℕ) → m ≤ last → n ≤ last → Less (key m) (key n) ↔ (m < n)
  compares m n a b = (λ h. go h (cases_order m n), λ l. rises m n l b)
    where
      go : Less (key m) (key n) → (m ≡ n) ⊎ ((m < n) ⊎ (n < m)) → m < n
      go h (inl e) = absurd (irreflexive (key n) (subst (λ x. Less (key x) (key n)) e h))
      go h (inr (inl l)) = l
      go h (inr (inr l)) = absurd
          (irreflexive (key m) (trans (key m) (key n) (key m) h (rises n m l a)))

-- the hindmost part meets both rules, where the writer has no work before it
pub lead_nears : {K : Type 0} → (parts lead : ℕ) (round : K → ℕ) (way : ℕ → K)
    → ((m n : ℕ) → m ≤ n → round (way m) ≤ round (way n))
    → (place : ℕ → ℕ) (look : ℕ → K) (wrote k : ℕ) → k < parts
    → ((j : ℕ) → j < parts → look j ≡ way (place j)) → ((j : ℕ) → j < parts → place k ≤ place j)
    → ByLead parts lead round place look wrote k
lead_nears parts lead round way rises place look wrote k l looks hind =
    λ j h. omega (
      arith,
      rises (place k) (place j) (hind j h),
      ap round (looks k l),
      ap round (looks j h),
    )

pub lockstep_nears : {K : Type 0}
    → (parts : ℕ) (work : ℕ → Type 0) (place : ℕ → ℕ) (look : ℕ → K) (wrote k : ℕ)
    → ((j : ℕ) → j < parts → place k ≤ place j) → ((m : ℕ) → wrote ≤ m → m < place k → work m → ⊥)
    → InLockstep parts work place look wrote k
lockstep_nears parts work place look wrote k hind none = (hind, none)
