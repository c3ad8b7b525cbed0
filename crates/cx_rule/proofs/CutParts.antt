-- The boxes of a cut's parts are those of parts of a grid.
use Rattle.std.proofs.Common.{ℕ, suc, ◌<◌, List, length, arith, refl, ℤ, pos, ◌+ℤ◌, ◌≤ℤ◌, ◌<ℤ◌}
use Rattle.std.proofs.lemmas.Int.{ints}
use Rattle.cx_cut.specs.Axis.{own_low, own_high, IsAxisCut}
use Rattle.cx_cut.specs.Cuts.{Parts, IsWhole, part_count, owned, local}
use Rattle.cx_cut.proofs.AxisFacts.{start_more, start_le}
use Rattle.cx_cut.proofs.Boxed.{place_below}
use Rattle.cx_rule.specs.Patches.{IsPart}

-- what a part owns of a direction
record Span (n g low high : ℤ) : Type 0 where
  from : pos 0 ≤ℤ low
  to : high ≤ℤ n
  some : low <ℤ high
  wide : (low +ℤ g) ≤ℤ high

span : (n g : ℤ) (ws : List ℕ) (a : ℕ) → IsAxisCut n g ws → a < length ws
    → Span n g (own_low ws a) (own_high ws a)
span n g ws a w l =
    let more = start_more ws a l in
    let end = start_le ws (suc a) in
    let total = w.total in
    let wide = w.wide a l in
    let some = w.some a l in
    record {
      from = omega (arith, ints);
      to = omega (arith, ints, total, end);
      some = omega (arith, ints, more, some);
      wide = omega (arith, ints, more, wide);
    }

pub part_is : (c : Parts) → IsWhole c → (k : ℕ) → k < part_count c
    → IsPart c.shape (owned c k) (local c k)
part_is c w k hk =
    let x = span _ _ c.x _ w.cut.x (place_below c k hk 0 (omega arith)) in
    let y = span _ _ c.y _ w.cut.y (place_below c k hk 1 (omega arith)) in
    let z = span _ _ c.z _ w.cut.z (place_below c k hk 2 (omega arith)) in
    record {
      shape = w.shape;
      interior = w.interior;
      x = record { from = x.from; to = x.to; some = x.some; wide = x.wide };
      y = record { from = y.from; to = y.to; some = y.some; wide = y.wide };
      z = record { from = z.from; to = z.to; some = z.some; wide = z.wide };
      local_is = refl;
    }
