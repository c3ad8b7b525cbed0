-- The boxes of a cut's parts lie as the core asks.
use Rattle.std.proofs.Common.{◌≡◌, ℕ, suc, ◌<◌, Bool, true, false, List, length, arith, refl, ℤ, pos, ◌+ℤ◌, ◌*ℤ◌, ◌≤ℤ◌, ◌⊎◌, inl, inr}
use Rattle.std.specs.Prelude.{IsTrue}
use Rattle.std.proofs.lemmas.Int.{ints}
use Rattle.cx_grid.specs.Grid.{IsShape, HasInterior, is_periodic}
use Rattle.cx_cut.specs.Axis.{own_low, own_high, local_low, local_high, IsAxisCut}
use Rattle.cx_cut.specs.Cuts.{Parts, part_count, place_along, IsCut, owned, local}
use Rattle.cx_cut.proofs.AxisFacts.{start_more, start_le}
use Rattle.cx_cut.proofs.Boxed.{place_below}
use Rattle.law_parts.proofs.ZoneLaws.{Lies}
use Rattle.law_parts.proofs.LiesLaws.{IsPart, IsPartAxis, part_lies}

inner_of : (ring : Bool) (n g : ℤ) → IsTrue ring ⊎ ((pos 2 *ℤ g +ℤ pos 1) ≤ℤ n) → ring ≡ false
    → (pos 2 *ℤ g +ℤ pos 1) ≤ℤ n
inner_of true n g h e = absurd cc
inner_of false n g (inl h) e = absurd cc
inner_of false n g (inr h) e = h

part_axis : (ring : Bool) (n g : ℤ) (ws : List ℕ) (a : ℕ) → IsAxisCut n g ws → a < length ws
    → IsTrue ring ⊎ ((pos 2 *ℤ g +ℤ pos 1) ≤ℤ n)
    → IsPartAxis ring n g (own_low ws a) (own_high ws a) (local_low ring g ws a)
    (local_high ring n g ws a)
part_axis ring n g ws a w l inner =
    let m = start_more ws a l in
    let s = w.some a l in
    let v = w.wide a l in
    let t = start_le ws (suc a) in
    record {
      from = omega (arith, ints);
      to = omega (arith, ints, t, w.total);
      some = omega (arith, ints, m, s);
      wide = omega (arith, ints, m, v);
      inner = inner_of ring n g inner;
      low = refl;
      high = refl;
    }

pub part_is : (c : Parts) → IsCut c → HasInterior c.shape → (k : ℕ) → k < part_count c
    → IsPart c.shape (owned c k) (local c k)
part_is c w interior k l =
    record {
      x = part_axis (is_periodic c.shape 0) c.shape.n.x c.shape.ghost_.x c.x (place_along c k 0) w.x
          (place_below c k l 0 (omega arith)) interior.x;
      y = part_axis (is_periodic c.shape 1) c.shape.n.y c.shape.ghost_.y c.y (place_along c k 1) w.y
          (place_below c k l 1 (omega arith)) interior.y;
      z = part_axis (is_periodic c.shape 2) c.shape.n.z c.shape.ghost_.z c.z (place_along c k 2) w.z
          (place_below c k l 2 (omega arith)) interior.z;
    }

pub cut_lies : (c : Parts) → IsCut c → IsShape c.shape → HasInterior c.shape → (k : ℕ)
    → k < part_count c → Lies c.shape c k
cut_lies c w shape interior k l = part_lies c.shape c k shape (part_is c w interior k l)
