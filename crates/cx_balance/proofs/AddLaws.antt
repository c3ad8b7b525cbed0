-- Sums to which numbers are added one place after another.
use Rattle.std.proofs.Common.{◌≡◌, ◌≢◌, ℕ, ◌+◌, ◌<◌, ◌≤◌, ◌⊎◌, inl, inr, refl, sym, ap, ◌∙◌, arith, List, length, get_or, slice_set}
use Rattle.std.proofs.lemmas.Bool.{cases_eq}
use Rattle.std.proofs.lemmas.List.{get_or-set_same, get_or-set_other}

-- the first so many sums are more by what a function gives, and the others as they were
pub record IsAdding (f : ℕ → ℕ) (old now : List ℕ) (n : ℕ) : Type 0 where
  pub more : (k : ℕ) → k < n → get_or now k 0 ≡ get_or old k 0 + f k
  pub same : (k : ℕ) → n ≤ k → get_or now k 0 ≡ get_or old k 0

pub adding_start : (f : ℕ → ℕ) (old : List ℕ) → IsAdding f old old 0
adding_start f old = record { more = λ k l. absurd (omega (arith, l)); same = λ k l. refl }

pub one_added : (f : ℕ → ℕ) (old now : List ℕ) (n added sum : ℕ) → n < length now
    → added ≡ f n → sum ≡ get_or now n 0 + added → IsAdding f old now n
    → IsAdding f old (slice_set now n sum) (n + 1)
one_added f old now n added sum room is e before =
    record {
      more = λ k l. go k l (cases_eq k n);
      same = λ k l. get_or-set_other now n k sum 0 (past k l)
          ∙ before.same k (omega (arith, l));
    }
  where
    past : (k : ℕ) → n + 1 ≤ k → k ≢ n
    past k l same = omega (arith, l, same)

    here : get_or (slice_set now n sum) n 0 ≡ get_or old n 0 + f n
    here = get_or-set_same now n sum 0 room ∙ e ∙ ap (λ m. get_or now n 0 + m) is
        ∙ ap (λ m. m + f n) (before.same n (omega arith))

    go : (k : ℕ) → k < n + 1 → (k ≡ n) ⊎ (k ≢ n)
        → get_or (slice_set now n sum) k 0 ≡ get_or old k 0 + f k
    go k l (inl same) =
        ap (λ m. get_or (slice_set now n sum) m 0) same ∙ here
        ∙ sym (ap (λ m. get_or old m 0 + f m) same)
    go k l (inr other) = get_or-set_other now n k sum 0 other
        ∙ before.more k (omega (arith, l, other))
