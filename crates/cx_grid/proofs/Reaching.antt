-- How many offsets a reach has.
use Rattle.std.proofs.Common.{◌≡◌, ℕ, zero, suc, ◌+◌, ◌*◌, ◌<◌, ◌≤◌, Bool, true, false, arith, refl, pos, neg_ℤ, if◌then◌else◌, nat_lt, mul-le-mul_left}
use Rattle.std.specs.Int.{int_gap}
use Rattle.cx_grid.specs.Boxes.{point_count}
use Rattle.cx_grid.specs.Windows.{reach_box}

pub side : (there : Bool) (reach : ℕ)
    → int_gap (if there then neg_ℤ (pos reach) else pos 0)
    (if there then pos (reach + 1) else pos 1) ≡ (if there then 2 * reach + 1 else 1)
side true zero = refl
side true (suc reach) = omega arith
side false reach = refl

side_few : (there : Bool) (reach : ℕ) → reach < 256 → (if there then 2 * reach + 1 else 1) ≤ 511
side_few true reach h = omega arith
side_few false reach h = omega arith

product : (a b m n : ℕ) → a ≤ m → b ≤ n → a * b ≤ m * n
product a b m n h k =
    let first : a * b ≤ a * n = mul-le-mul_left a k in
    let last : n * a ≤ n * m = mul-le-mul_left n h in
    grind (arith, first, last)

pub reach_few : (dims reach : ℕ) → reach < 256 → point_count (reach_box dims reach) ≤ 133432831
reach_few dims reach h =
    let x = side_few (nat_lt 0 dims) reach h in
    let y = side_few (nat_lt 1 dims) reach h in
    let z = side_few (nat_lt 2 dims) reach h in
    rw (side (nat_lt 0 dims) reach, side (nat_lt 1 dims) reach, side (nat_lt 2 dims) reach)
    (product _ _ (511 * 511) 511 (product _ _ 511 511 x y) z)
