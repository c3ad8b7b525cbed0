-- Lists of digits, read as numbers, are in the order of the first digits that differ.
use Rattle.std.proofs.Common.{◌≡◌, ℕ, zero, suc, ◌+◌, ◌*◌, ◌^◌, ◌<◌, ◌≤◌, inl, inr, List, [], ◌∷◌, length, sym, ap, subst, arith}
use Rattle.std.proofs.Math.Nat.{mul-le-mul, mul-le-mul_right, suc-mul, pow-zero, pow-succ'}
use Rattle.cx_flat.specs.Ways.{Less}
use Rattle.cx_core.specs.Left.{rank_of}

-- each digit is below the base
abbrev pub Below : ℕ → List ℕ → Type 0
Below base [] = Unit {0}
Below base (x ∷ xs) = (x < base) × Below base xs

digit_first : (x base p rest : ℕ) → x < base → rest < p → x * p + rest < base * p
digit_first x base p rest l m =
    let h : suc x * p ≤ base * p = mul-le-mul_right p l in
    omega (arith, h, suc-mul x p, m)

digit_less : (x y p a b : ℕ) → x < y → a < p → x * p + a < y * p + b
digit_less x y p a b l m =
    let h : x * p + a < y * p = digit_first x y p a l m in
    omega (arith, h)

some_power : (base n : ℕ) → 0 < base → 0 < base ^ n
some_power base zero l = omega (arith, pow-zero base)
some_power base (suc n) l =
    let h : 1 * 1 ≤ base * base ^ n = mul-le-mul l (some_power base n l) in
    omega (arith, h, pow-succ' base n)

pub rank_below : (base digits : ℕ) (xs : List ℕ) → 0 < base → Below base xs
    → rank_of base digits xs < base ^ digits
rank_below base zero xs some h = omega (arith, pow-zero base)
rank_below base (suc n) [] some h = some_power base (suc n) some
rank_below base (suc n) (x ∷ xs) some h =
    subst (λ p. x * base ^ n + rank_of base n xs < p) (sym (pow-succ' base n))
    (digit_first x base (base ^ n) (rank_of base n xs) h.0 (rank_below base n xs some h.1))

pub rank_less : (base digits : ℕ) (xs ys : List ℕ) → 0 < base → Below base xs → length xs ≤ digits
    → Less xs ys → rank_of base digits xs < rank_of base digits ys
rank_less base digits [] ys some h l less = absurd less
rank_less base digits (x ∷ xs) [] some h l less = absurd less
rank_less base zero (x ∷ xs) (y ∷ ys) some h l less = absurd (omega (arith, l))
rank_less base (suc n) (x ∷ xs) (y ∷ ys) some h l (inl first) =
    digit_less x y (base ^ n) (rank_of base n xs) (rank_of base n ys) first
    (rank_below base n xs some h.1)
rank_less base (suc n) (x ∷ xs) (y ∷ ys) some h l (inr same) =
    let rest : rank_of base n xs < rank_of base n ys =
    rank_less base n xs ys some h.1 (omega (arith, l)) same.1 in
    let first : x * base ^ n ≡ y * base ^ n = ap (λ z. z * base ^ n) same.0 in
    omega (arith, rest, first)
