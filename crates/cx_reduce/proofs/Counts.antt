-- A part owns a point at least, and no more than the grid has; each of them is local.
use Rattle.std.proofs.Common.{ℕ, ◌≤◌, ◌*◌, ◌^◌, ℤ, pos, negsuc, ◌<ℤ◌, ◌≤ℤ◌, arith}
use Rattle.std.specs.Int.{int_gap}
use Rattle.std.proofs.lemmas.Int.{ints}
use native.Mathlib.Nat.{mul-le-mul}
use Rattle.cx_grid.specs.declared.boxes.Box3.{Box3}
use Rattle.cx_grid.specs.declared.shapes.Shape.{Shape}
use Rattle.cx_grid.specs.Boxes.{point_count, extent}
use Rattle.cx_grid.specs.Grid.{whole}
use Rattle.cx_field.specs.Patches.{IsPart}

times_some : (a b : ℕ) → 1 ≤ a → 1 ≤ b → 1 ≤ a * b
times_some a b m n = mul-le-mul m n

gap_some : (low high : ℤ) → low <ℤ high → 1 ≤ int_gap low high
gap_some (pos a) (pos b) l = omega (arith, ints, l)
gap_some (pos a) (negsuc b) l = omega (arith, ints, l)
gap_some (negsuc a) (pos b) l = omega (arith, ints, l)
gap_some (negsuc a) (negsuc b) l = omega (arith, ints, l)

gap_within : (low high n : ℤ) → pos 0 ≤ℤ low → high ≤ℤ n → int_gap low high ≤ int_gap (pos 0) n
gap_within (pos a) (pos b) (pos n) l h = omega (arith, ints, h)
gap_within (pos a) (pos b) (negsuc n) l h = omega (arith, ints, h)
gap_within (pos a) (negsuc b) n l h = omega arith
gap_within (negsuc a) high n l h = omega (arith, ints, l)

module _ (s : Shape) (owned local : Box3) (part : IsPart s owned local) where
  pub some_points : 1 ≤ point_count owned
  some_points =
      times_some (extent owned 0 * extent owned 1) (extent owned 2)
      (times_some (extent owned 0) (extent owned 1) (gap_some owned.low.x owned.high.x part.x.some)
      (gap_some owned.low.y owned.high.y part.y.some))
      (gap_some owned.low.z owned.high.z part.z.some)

  pub few_points : point_count owned ≤ 2 ^ 24
  few_points =
      let most : point_count owned ≤ point_count (whole s) =
      mul-le-mul
      (mul-le-mul (gap_within owned.low.x owned.high.x s.n.x part.x.from part.x.to)
      (gap_within owned.low.y owned.high.y s.n.y part.y.from part.y.to))
      (gap_within owned.low.z owned.high.z s.n.z part.z.from part.z.to)
      in
      let few = part.shape.few in
      omega (arith, most, few)
