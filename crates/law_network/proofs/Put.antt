-- A value put at one place, and a sum after it.
use Rattle.std.proofs.Common.{◌≡◌, ℕ, zero, suc, ◌+◌, ◌<◌, ◌⊎◌, inl, inr, eqb, refl, sym, ap, ◌∙◌, arith, eq-eqb}
use Rattle.std.proofs.lemmas.Bool.{cases_eq, ne_eqb, cond-true, cond-false}
use Rattle.law_network.specs.Machine.{put, sum_below}

pub put_same : {A : Type 0} (f : ℕ → A) (k : ℕ) (v : A) (j : ℕ) → j ≡ k → put f k v j ≡ v
put_same f k v j e = cond-true (eqb j k) v (f j) (eq-eqb j k e)

pub put_other : {A : Type 0} (f : ℕ → A) (k : ℕ) (v : A) (j : ℕ) → (j ≡ k → ⊥) → put f k v j ≡ f j
put_other f k v j n = cond-false (eqb j k) v (f j) (ne_eqb j k n)

-- what holds at k of v, and elsewhere of f
pub at_put : {A : Type 0} (f : ℕ → A) (k : ℕ) (v : A) (P : ℕ → A → Type 0) → P k v
    → ((j : ℕ) → P j (f j)) → (j : ℕ)
    → P j (put f k v j)
at_put f k v P here there j = go (cases_eq j k)
  where
    go : (j ≡ k) ⊎ (j ≡ k → ⊥) → P j (put f k v j)
    go (inl e) = rw (put_same f k v j e, e) here
    go (inr n) = rw (put_other f k v j n) (there j)

pub at_put2 : {A B : Type 0} (f : ℕ → A) (g : ℕ → B) (k : ℕ) (v : A) (w : B)
    (P : ℕ → A → B → Type 0) → P k v w
    → ((j : ℕ) → P j (f j) (g j)) → (j : ℕ) → P j (put f k v j) (put g k w j)
at_put2 f g k v w P here there j = go (cases_eq j k)
  where
    go : (j ≡ k) ⊎ (j ≡ k → ⊥) → P j (put f k v j) (put g k w j)
    go (inl e) = rw (put_same f k v j e, put_same g k w j e, e) here
    go (inr n) = rw (put_other f k v j n, put_other g k w j n) (there j)

pub sum_same : (n : ℕ) (f g : ℕ → ℕ) → ((j : ℕ) → j < n → f j ≡ g j) → sum_below n f ≡ sum_below n g
sum_same zero f g h = refl
sum_same (suc n) f g h =
    let e : sum_below n f ≡ sum_below n g = sum_same n f g (λ j l. h j (omega arith)) in
    let d : f n ≡ g n = h n (omega arith) in
    omega arith

-- one term is greater by d
pub sum_more : (n k d : ℕ) (f g : ℕ → ℕ) → k < n → g k ≡ f k + d
    → ((j : ℕ) → (j ≡ k → ⊥) → g j ≡ f j)
    → sum_below n g ≡ sum_below n f + d
sum_more zero k d f g l here there = omega arith
sum_more (suc n) k d f g l here there = go (sum_more n k d f g) (cases_eq n k)
  where
    go : (k < n → g k ≡ f k + d → ((j : ℕ) → (j ≡ k → ⊥) → g j ≡ f j)
        → sum_below n g ≡ sum_below n f + d) → (n ≡ k) ⊎ (n ≡ k → ⊥)
        → sum_below n g + g n ≡ sum_below n f + f n + d
    go more (inl e) =
        let s : sum_below n g ≡ sum_below n f =
        sum_same n g f (λ j m. there j (λ q. omega arith)) in
        let h : g n ≡ f n + d = rw e here in
        omega arith
    go more (inr q) =
        let s : sum_below n g ≡ sum_below n f + d = more (omega arith) here there in
        let h : g n ≡ f n = there n q in
        omega arith

pub sum_zero : (n : ℕ) → sum_below n (λ _. 0) ≡ 0
sum_zero zero = refl
sum_zero (suc n) = omega (arith, sum_zero n)

pub sum_add : (n : ℕ) (f g : ℕ → ℕ) → sum_below n (λ j. f j + g j) ≡ sum_below n f + sum_below n g
sum_add zero f g = refl
sum_add (suc n) f g = omega (arith, sum_add n f g)

-- by rows or by columns
pub sum_swap : (m n : ℕ) (f : ℕ → ℕ → ℕ)
    → sum_below m (λ k. sum_below n (λ i. f k i)) ≡ sum_below n (λ i. sum_below m (λ k. f k i))
sum_swap zero n f = sym (sum_zero n)
sum_swap (suc m) n f =
    ap (λ x. x + sum_below n (λ i. f m i)) (sum_swap m n f)
    ∙ sym (sum_add n (λ i. sum_below m (λ k. f k i)) (λ i. f m i))
