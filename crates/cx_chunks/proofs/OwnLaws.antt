-- The boxes of the points that parts own.
use Rattle.std.proofs.Common.{◌≡◌, ℕ, suc, ◌<◌, ◌≤◌, arith, ap, ◌∙◌, ℤ, pos, ◌-ℤ◌, ◌≤ℤ◌, List, unsigned_abs}
use Rattle.std.specs.Int.{int_gap}
use Rattle.std.proofs.lemmas.Int.{ints}
use Rattle.std.proofs.lemmas.Nat.{mul-le}
use Rattle.cx_grid.specs.declared.boxes.Point.{Point}
use Rattle.cx_grid.specs.Boxes.{IsBox, IsSmall, IsIn, point_count}
use Rattle.cx_grid.specs.Grid.{whole}
use Rattle.cx_grid.proofs.Places.{gap_up}
use Rattle.cx_cut.specs.Axis.{own_low, own_high, sum_of, IsAxisCut}
use Rattle.cx_cut.specs.Cuts.{Parts, IsWhole, part_count, place_along, owned}
use Rattle.cx_cut.proofs.AxisFacts.{start_le, start_rises}
use Rattle.cx_cut.proofs.Tiled.{tiles}

-- how far a number is above another one
pub gap_is : (low high : ℤ) → low ≤ℤ high → unsigned_abs (high -ℤ low) ≡ int_gap low high
gap_is low high up =
    let g = gap_up low high up in
    let e : high -ℤ low ≡ pos (int_gap low high) = omega (arith, ints, g) in
    ap unsigned_abs e

own_up : (ws : List ℕ) (a : ℕ) → own_low ws a ≤ℤ own_high ws a
own_up ws a = let r = start_rises ws a (suc a) (omega arith) in omega (arith, ints, r)

pub own_is_box : (c : Parts) (k : ℕ) → IsBox (owned c k)
own_is_box c k = record {
  x = own_up c.x (place_along c k 0);
  y = own_up c.y (place_along c k 1);
  z = own_up c.z (place_along c k 2);
}

pub from_zero : (m : ℕ) → int_gap (pos 0) (pos m) ≡ m
from_zero m = omega arith

-- a part has no more points in a direction than the grid
own_gap : (ws : List ℕ) (a : ℕ) (n g : ℤ) → IsAxisCut n g ws
    → int_gap (own_low ws a) (own_high ws a) ≤ int_gap (pos 0) n
own_gap ws a n g cut =
    let few = start_le ws (suc a) in
    let all : int_gap (pos 0) n ≡ sum_of ws =
    ap (int_gap (pos 0)) cut.total ∙ from_zero (sum_of ws) in
    omega (arith, few, all)

pub own_count : (c : Parts) (k : ℕ) → IsWhole c
    → point_count (owned c k) ≤ point_count (whole c.shape)
own_count c k is =
    mul-le _ _ _ _
    (mul-le _ _ _ _ (own_gap c.x (place_along c k 0) c.shape.n.x c.shape.ghost_.x is.cut.x)
    (own_gap c.y (place_along c k 1) c.shape.n.y c.shape.ghost_.y is.cut.y))
    (own_gap c.z (place_along c k 2) c.shape.n.z c.shape.ghost_.z is.cut.z)

pub own_small : (c : Parts) (k : ℕ) → IsWhole c → IsSmall (owned c k)
own_small c k is = let less = own_count c k is in let few = is.shape.few in omega (arith, less, few)

pub all_small : (c : Parts) → IsWhole c → IsSmall (whole c.shape)
all_small c is = let few = is.shape.few in omega (arith, few)

pub own_inside : (c : Parts) (k : ℕ) → IsWhole c → k < part_count c → (p : Point)
    → IsIn (owned c k) p
    → IsIn (whole c.shape) p
own_inside c k is there p own = (tiles c is.cut).within p k there own
