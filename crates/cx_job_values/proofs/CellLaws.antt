-- Products that 64 bits don't hold, and levels one variable more.
use Rattle.std.proofs.Common.{◌≡◌, sym, ◌∙◌, ap, ◌⊎◌, inl, inr, ℕ, zero, suc, ◌*◌, ◌<◌, ◌≤◌, arith}
use Rattle.std.specs.Prelude.{min}
use Rattle.std.proofs.Math.Nat.{min-eq_left, min-eq_right, mul_comm, zero-mul, le-mul_of_pos_right}

-- ---- products

split : (a b : ℕ) → (a ≤ b) ⊎ (b < a)
split zero b = inl (omega arith)
split (suc a) zero = inr (omega arith)
split (suc a) (suc b) = after (split a b)
  where
    after : (a ≤ b) ⊎ (b < a) → (suc a ≤ suc b) ⊎ (suc b < suc a)
    after (inl h) = inl (omega (arith, h))
    after (inr h) = inr (omega (arith, h))

both_most : (x y m : ℕ) → m ≤ x → m ≤ y → min x m ≡ min y m
both_most x y m hx hy = min-eq_right hx ∙ sym (min-eq_right hy)

-- a greatest number is kept by a product, unless the other factor is 0
one_most : (a b m : ℕ) → m ≤ b → min (a * m) m ≡ min (a * b) m
one_most zero b m h = ap (λ z. min z m) (zero-mul m ∙ sym (zero-mul b))
one_most (suc a) b m h =
    let c : m ≤ m * suc a = le-mul_of_pos_right m (omega arith) in
    let d : b ≤ b * suc a = le-mul_of_pos_right b (omega arith) in
    let e : m * suc a ≡ suc a * m = mul_comm m (suc a) in
    let f : b * suc a ≡ suc a * b = mul_comm b (suc a) in
    both_most (suc a * m) (suc a * b) m (omega (arith, c, e)) (omega (arith, d, f, h))

-- of a factor only what is held counts
factor_held : (a b m : ℕ) → min (a * min b m) m ≡ min (a * b) m
factor_held a b m = by (split b m)
  where
    by : (b ≤ m) ⊎ (m < b) → min (a * min b m) m ≡ min (a * b) m
    by (inl h) = ap (λ c. min (a * c) m) (min-eq_left h)
    by (inr h) = (let past : m ≤ b = omega (arith, h) in
        ap (λ c. min (a * c) m) (min-eq_right past) ∙ one_most a b m past)

pub product_held : (points levels m : ℕ)
    → min (min points m * min levels m) m ≡ min (levels * points) m
product_held points levels m =
    factor_held (min points m) levels m
    ∙ ap (λ c. min c m) (mul_comm (min points m) levels)
    ∙ factor_held levels points m
