-- The planes of a grid as boxes.
use Rattle.std.proofs.Common.{ℕ, zero, suc, ◌+◌, ◌^◌, ◌≤◌, Bool, true, false, eqb, arith, ℤ, pos, negsuc, ◌≤ℤ◌}
use Rattle.std.specs.Prelude.{unsigned_abs, if◌then◌else◌}
use Rattle.std.specs.Int.{int_gap}
use Rattle.std.proofs.Math.Nat.{mul-le-mul}
use Rattle.std.proofs.lemmas.Int.{ints}
use Rattle.cx_grid.specs.declared.shapes.Shape.{Shape}
use Rattle.cx_grid.specs.Boxes.{along, point_count}
use Rattle.cx_grid.specs.Grid.{IsAxis, IsShape, whole}
use Rattle.cx_balance.specs.Weighing.{plane}

-- ---- one direction, which a plane lies across or not

gap_some : (across : Bool) (k : ℕ) (n : ℤ) → pos 1 ≤ℤ n
    → 1 ≤ int_gap (if across then pos k else pos 0) (if across then pos (k + 1) else n)
gap_some true k n some = omega arith
gap_some false k (pos m) some = omega (arith, ints, some)
gap_some false k (negsuc m) some = absurd (omega (arith, ints, some))

gap_within : (across : Bool) (k : ℕ) (n : ℤ) → pos 1 ≤ℤ n
    → int_gap (if across then pos k else pos 0) (if across then pos (k + 1) else n)
    ≤ int_gap (pos 0) n
gap_within true k (pos m) some = omega (arith, ints, some)
gap_within true k (negsuc m) some = absurd (omega (arith, ints, some))
gap_within false k n some = omega arith

-- ---- a plane

module _ (s : Shape) (is : IsShape s) (d k : ℕ) where
  x : pos 1 ≤ℤ s.n.x
  x = is.x.some

  y : pos 1 ≤ℤ s.n.y
  y = is.y.some

  z : pos 1 ≤ℤ s.n.z
  z = is.z.some

  pub plane_some : 1 ≤ point_count (plane s d k)
  plane_some =
      mul-le-mul (mul-le-mul (gap_some (eqb d 0) k s.n.x x) (gap_some (eqb d 1) k s.n.y y))
      (gap_some (eqb d 2) k s.n.z z)

  pub plane_few : point_count (plane s d k) ≤ 2 ^ 24
  plane_few =
      let l : point_count (plane s d k) ≤ point_count (whole s) =
      mul-le-mul (mul-le-mul (gap_within (eqb d 0) k s.n.x x) (gap_within (eqb d 1) k s.n.y y))
      (gap_within (eqb d 2) k s.n.z z) in
      let few = is.few in
      omega (arith, l, few)

-- ---- how many planes

pub axis_points : (n g : ℤ) → IsAxis n g → (1 ≤ unsigned_abs n) × (unsigned_abs n ≤ 16777216)
axis_points (pos m) g a = let some = a.some in let most = a.most in
    (omega (arith, ints, some), omega (arith, ints, most))
axis_points (negsuc m) g a = let some = a.some in absurd (omega (arith, ints, some))

pub points_along : (s : Shape) → IsShape s → (d : ℕ)
    → (1 ≤ unsigned_abs (along s.n d)) × (unsigned_abs (along s.n d) ≤ 16777216)
points_along s is zero = axis_points s.n.x s.ghost_.x is.x
points_along s is (suc zero) = axis_points s.n.y s.ghost_.y is.y
points_along s is (suc (suc d)) = axis_points s.n.z s.ghost_.z is.z

pub whole_some : (s : Shape) → IsShape s → 1 ≤ point_count (whole s)
whole_some s is =
    mul-le-mul (mul-le-mul (gap_some false 0 s.n.x is.x.some) (gap_some false 0 s.n.y is.y.some))
    (gap_some false 0 s.n.z is.z.some)
