-- What holds of the elements before a place of a list.
use Rattle.std.proofs.Common.{◌≡◌, ℕ, zero, suc, ◌+◌, ◌<◌, ◌≤◌, ◌⊎◌, inl, inr, arith, sym, subst, List, length, get_or}
use Rattle.std.specs.Prelude.{All}

abbrev pub AllBefore : {X : Type 0} → (X → Type 0) → List X → ℕ → Type 0
AllBefore {X} P xs i = (k : ℕ) (d : X) → k < i → k < length xs → P (get_or xs k d)

cases : (k i : ℕ) → k < i + 1 → (k < i) ⊎ (k ≡ i)
cases zero zero h = inr (omega arith)
cases zero (suc i) h = inl (omega arith)
cases (suc k) zero h = absurd (omega (arith, h))
cases (suc k) (suc i) h = more (cases k i (omega (arith, h)))
  where
    more : (k < i) ⊎ (k ≡ i) → (suc k < suc i) ⊎ (suc k ≡ suc i)
    more (inl l) = inl (omega (arith, l))
    more (inr e) = inr (omega (arith, e))

-- none stands before the first place
pub none_before : {X : Type 0} (P : X → Type 0) (xs : List X) → AllBefore P xs 0
none_before P xs k d l m = absurd (omega (arith, l))

-- one place more, where all that held holds still
pub one_more : {X : Type 0} (P Q : X → Type 0) (xs : List X) (i : ℕ) → AllBefore P xs i
    → ((x : X) → P x → Q x)
    → ((d : X) → i < length xs → Q (get_or xs i d)) → AllBefore Q xs (i + 1)
one_more P Q xs i h still here k d l m = go (cases k i l)
  where
    go : (k < i) ⊎ (k ≡ i) → Q (get_or xs k d)
    go (inl b) = still (get_or xs k d) (h k d b m)
    go (inr e) = subst (λ j. Q (get_or xs j d)) (sym e) (here d (subst (λ j. j < length xs) e m))

-- at the end it holds of all
pub all_before : {X : Type 0} (P : X → Type 0) (xs : List X) (i : ℕ) → AllBefore P xs i
    → length xs ≤ i → All P xs
all_before P xs i h l k d m = h k d (omega (arith, l, m)) m
