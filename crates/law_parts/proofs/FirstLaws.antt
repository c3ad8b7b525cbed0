-- The first place where something holds.
use Rattle.std.proofs.Common.{◌≡◌, ℕ, zero, suc, ◌+◌, ◌≤◌, ◌<◌, ◌⊎◌, inl, inr, Bool, true, false, ◌||◌, refl, ap, ◌∙◌, subst, arith, cond}
use Rattle.std.specs.List.{list_any, range_with_len}
use Rattle.std.proofs.lemmas.Bool.{cases_eq, or_parts}
use Rattle.law_parts.specs.Runs.{first_from}

pub first_within : (f s : ℕ) (p : ℕ → Bool) → first_from f s p ≤ s + f
first_within zero s p = omega arith
first_within (suc f) s p = go (p s) refl (first_within f (suc s) p)
  where
    go : (b : Bool) → p s ≡ b → first_from f (suc s) p ≤ suc s + f
        → cond (p s) s (first_from f (suc s) p) ≤ s + suc f
    go true e h = let q : cond (p s) s (first_from f (suc s) p) ≡ s =
        ap (λ b. cond b s (first_from f (suc s) p)) e in omega arith
    go false e h = let q : cond (p s) s (first_from f (suc s) p) ≡ first_from f (suc s) p =
        ap (λ b. cond b s (first_from f (suc s) p)) e in omega arith

pub first_before : (f s n : ℕ) (p : ℕ → Bool) → s ≤ n → n < first_from f s p → p n ≡ false
first_before zero s n p a l = absurd (omega arith)
first_before (suc f) s n p a l = go (p s) refl (cases_eq s n) (first_before f (suc s) n p)
  where
    go : (b : Bool) → p s ≡ b → (s ≡ n) ⊎ (s ≡ n → ⊥)
        → (suc s ≤ n → n < first_from f (suc s) p → p n ≡ false) → p n ≡ false
    go true e c more = let q : cond (p s) s (first_from f (suc s) p) ≡ s =
        ap (λ b. cond b s (first_from f (suc s) p)) e in absurd (omega (arith, l))
    go false e (inl c) more = subst (λ m. p m ≡ false) c e
    go false e (inr c) more =
        let q : cond (p s) s (first_from f (suc s) p) ≡ first_from f (suc s) p =
        ap (λ b. cond b s (first_from f (suc s) p)) e in more (omega arith) (omega (arith, l))

pub first_at : (f s : ℕ) (p : ℕ → Bool) → (first_from f s p ≡ s + f) ⊎ (p (first_from f s p) ≡ true)
first_at zero s p = inl (omega arith)
first_at (suc f) s p = go (p s) refl (first_at f (suc s) p)
  where
    go : (b : Bool) → p s ≡ b
        → (first_from f (suc s) p ≡ suc s + f) ⊎ (p (first_from f (suc s) p) ≡ true)
        → (cond (p s) s (first_from f (suc s) p) ≡ s + suc f)
        ⊎ (p (cond (p s) s (first_from f (suc s) p)) ≡ true)
    go true e h = inr (ap (λ b. p (cond b s (first_from f (suc s) p))) e ∙ e)
    go false e (inl h) = inl
        (let q : cond (p s) s (first_from f (suc s) p) ≡ first_from f (suc s) p =
        ap (λ b. cond b s (first_from f (suc s) p)) e in omega arith)
    go false e (inr h) = inr (ap (λ b. p (cond b s (first_from f (suc s) p))) e ∙ h)

-- ---- some of several

pub or_either : (x y : Bool) → (x || y) ≡ true → (x ≡ true) ⊎ (y ≡ true)
or_either true y e = inl refl
or_either false y e = inr e

pub none_of : (f : ℕ → Bool) (s count k : ℕ) → list_any f (range_with_len s count) ≡ false → s ≤ k
    → k < s + count → f k ≡ false
none_of f s zero k e a l = absurd (omega arith)
none_of f s (suc count) k e a l = go (cases_eq s k) (none_of f (s + 1) count k)
  where
    go : (s ≡ k) ⊎ (s ≡ k → ⊥)
        → (list_any f (range_with_len (s + 1) count) ≡ false → s + 1 ≤ k → k < s + 1 + count
        → f k ≡ false) → f k ≡ false
    go (inl c) more = subst (λ m. f m ≡ false) c
        (or_parts (f s) (list_any f (range_with_len (s + 1) count)) e).0
    go (inr c) more = more (or_parts (f s) (list_any f (range_with_len (s + 1) count)) e).1
        (omega arith) (omega arith)

pub some_of : (f : ℕ → Bool) (s count : ℕ) → list_any f (range_with_len s count) ≡ true
    → (k : ℕ) × (k < s + count) × (f k ≡ true)
some_of f s zero e = absurd cc
some_of f s (suc count) e =
    go (or_either (f s) (list_any f (range_with_len (s + 1) count)) e) (some_of f (s + 1) count)
  where
    go : (f s ≡ true) ⊎ (list_any f (range_with_len (s + 1) count) ≡ true)
        → (list_any f (range_with_len (s + 1) count) ≡ true
        → (k : ℕ) × (k < s + 1 + count) × (f k ≡ true))
        → (k : ℕ) × (k < s + suc count) × (f k ≡ true)
    go (inl h) more = (s, omega arith, h)
    go (inr h) more = let x = more h in (x.0, omega (arith, x.1), x.2)
