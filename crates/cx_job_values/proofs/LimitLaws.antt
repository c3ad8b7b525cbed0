-- Limits that hold whatever the values are.
use Rattle.std.proofs.Common.{◌≡◌, refl, ℕ, ◌≤◌, ◌^◌, Bool, true, false, ℤ, pos, negsuc, ◌≤ℤ◌, List, ◌++◌, codes, unsigned_abs, nat_lt, if◌then◌else◌, arith}
use Rattle.std.proofs.lemmas.Int.{ints, clamps}
use Rattle.cx_grid.specs.Boxes.{point_count}
use Rattle.cx_grid.specs.Grid.{IsAxis, IsNoAxis, IsShape, whole}
use Rattle.cx_bind.specs.declared.thorns.Thorn.{Thorn}
use Rattle.cx_values.specs.declared.values.Values.{Values}
use Rattle.cx_job_values.specs.declared.direction.Direction.{Direction}
use Rattle.cx_job_values.specs.declared.direction.Direction.TheVariants.{X, Y, Z}
use Rattle.cx_job_values.specs.Grids.{within, number_at, natural_within, letter, has_direction, for_all_or, points_along, ghosts_along, dims, shape_by, shape_of}
use Rattle.cx_job_values.specs.Ranges.{IsBetween}

-- ---- numbers between two ends

pub lies_within : (low high n : ℤ) → low ≤ℤ high → IsBetween low high (within low high n)
lies_within low high n order = (omega (arith, ints, clamps), omega (arith, ints, clamps))

natural_between : (low high : ℕ) (n : ℤ) → IsBetween (pos low) (pos high) n
    → (low ≤ unsigned_abs n) × (unsigned_abs n ≤ high)
natural_between low high (pos n) is = let from = is.0 in let to = is.1 in
    (omega (arith, ints), omega (arith, ints))
natural_between low high (negsuc n) is = let from = is.0 in absurd (omega (arith, ints))

pub natural_lies_within : (v : Values) (low high : ℕ) (full : List ℕ) → low ≤ high
    → (low ≤ natural_within v low high full) × (natural_within v low high full ≤ high)
natural_lies_within v low high full order =
    let ends : pos low ≤ℤ pos high = omega (arith, ints) in
    natural_between low high (within (pos low) (pos high) (number_at v full))
    (lies_within (pos low) (pos high) (number_at v full) ends)

-- ---- shapes

axis : (b : Bool) (n ghosts : ℤ) → IsBetween (pos 1) (pos 16777216) n
    → IsBetween (pos 0) (pos 8) ghosts
    → IsAxis (if b then n else pos 1) (if b then ghosts else pos 0)
axis true n ghosts points widths =
    record { some = points.0; most = points.1; least_ghosts = widths.0; most_ghosts = widths.1 }
axis false n ghosts points widths =
    record {
      some = omega (arith, ints);
      most = omega (arith, ints);
      least_ghosts = omega (arith, ints);
      most_ghosts = omega (arith, ints);
    }

no_axis : (b : Bool) (n ghosts : ℤ) → b ≡ false
    → IsNoAxis (if b then n else pos 1) (if b then ghosts else pos 0)
no_axis true n ghosts e = absurd cc
no_axis false n ghosts e = record { one = refl; no_ghosts = refl }

not_below : (a b : ℕ) → b ≤ a → nat_lt a b ≡ false
not_below a b h = grind arith

module _ (dims : ℕ) (v : Values) where
  axis_along : (d : Direction) → IsAxis (points_along dims v d) (ghosts_along dims v d)
  axis_along d =
      axis (has_direction dims d) _ _
      (lies_within (pos 1) (pos 16777216)
      (for_all_or (pos 1) (number_at v (codes "driver::global_nsize"))
      (number_at v (codes "driver::global_n" ++ letter d))) (omega (arith, ints)))
      (lies_within (pos 0) (pos 8)
      (for_all_or (pos 0) (number_at v (codes "driver::ghost_size"))
      (number_at v (codes "driver::ghost_size_" ++ letter d))) (omega (arith, ints)))

  no_axis_along : (d : Direction) → has_direction dims d ≡ false
      → IsNoAxis (points_along dims v d) (ghosts_along dims v d)
  no_axis_along d above = no_axis (has_direction dims d) _ _ above

  is_shape : 1 ≤ dims → dims ≤ 3 → point_count (whole (shape_by dims v)) ≤ 2 ^ 24
      → IsShape (shape_by dims v)
  is_shape some most few =
      record {
        some = some;
        most = most;
        x = axis_along X;
        y = axis_along Y;
        z = axis_along Z;
        no_y = λ one. no_axis_along Y (not_below 1 dims (omega arith));
        no_z = λ two. no_axis_along Z (not_below 2 dims (omega arith));
        few = few;
      }

-- ---- the grid of thorns

pub few_dims : (thorns : List Thorn) → (1 ≤ dims thorns) × (dims thorns ≤ 3)
few_dims thorns = (omega arith, omega arith)

-- It is a grid that the calls on grids ask for, unless it has too many points.
pub has_shape : (thorns : List Thorn) (v : Values)
    → point_count (whole (shape_of thorns v)) ≤ 2 ^ 24 → IsShape (shape_of thorns v)
has_shape thorns v few = let ends : (1 ≤ dims thorns) × (dims thorns ≤ 3) = few_dims thorns in
    is_shape (dims thorns) v ends.0 ends.1 few
