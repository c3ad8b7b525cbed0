-- Points of a zone's box that lie in its hole are passed over.
use Rattle.std.proofs.Common.{◌≡◌, ℕ, zero, suc, ◌+◌, ◌<◌, ◌≤◌, ◌^◌, Bool, true, false, arith, refl, sym, ap, ◌∙◌, subst, ℤ, pos, ◌+ℤ◌, ◌-ℤ◌, ◌≤ℤ◌, if◌then◌else◌, List, [], ◌∷◌, ◌++◌, length, length-append, get_or, take}
use Rattle.std.specs.Int.{int_gap, int_min, int_max}
use Rattle.std.proofs.lemmas.Int.{ints, clamps, by_lt_z}
use Rattle.std.proofs.lemmas.List.{take_more, take_all}
use Rattle.std.proofs.lemmas.List.FromFn.{length-map-range_with_len, get_or-map-range_with_len}
use Rattle.cx_grid.specs.declared.boxes.Point.{Point}
use Rattle.cx_grid.specs.declared.boxes.Box3.{Box3}
use Rattle.cx_grid.specs.declared.shapes.Shape.{Shape}
use Rattle.cx_grid.specs.Boxes.{IsIn, IsBox, IsSmall, has_point, extent, point_count, index_in, point_in, points_in}
use Rattle.cx_grid.specs.Grid.{is_periodic}
use Rattle.cx_grid.proofs.Points.{in_is, in_from}
use Rattle.cx_grid.proofs.Places.{gap_up, gap_none, index_below, index_at_point, point_at_index, point_inside}
use Rattle.cx_cut.specs.Axis.{widened_from, widened_to}
use Rattle.cx_cut.specs.Cuts.{widened}
use Rattle.cx_plan.specs.declared.item.Item.{Item}
use Rattle.cx_plan.specs.declared.item.ItemKind.TheVariants.{Cell}
use Rattle.cx_plan.specs.declared.item.Region.{Region}
use Rattle.cx_plan.specs.Regions.{region_of}
use Rattle.cx_plan.specs.declared.item.Region.TheVariants.{Interior, Boundary, Everywhere}
use Rattle.cx_rule.specs.Patches.{PatchValue, IsPart, IsPatch, beside}
use Rattle.cx_rule.specs.Swept.{swept_zone}
use Rattle.cx_rule.specs.Zones.{in_zone, inner, zone_of, item_zone, IsOutside}
use Rattle.cx_rule.specs.declared.zone.Zone.{Zone}
use Rattle.cx_rule.proofs.FaceLaws.{row_index}
use Rattle.cx_rule.proofs.PartLaws.{IsAround, product, around_x, around_y, around_z, local_small}

-- ---- places in a list

-- a box's points have their places in its list
point_here : (b : Box3) (p : Point) (i : ℕ) (d : Point) → IsIn b p → index_in b p ≡ i
    → get_or (points_in b) i d ≡ p
point_here b p i d h e =
    let below : i < point_count b = subst (λ n. n < point_count b) e (index_below b p h) in
    get_or-map-range_with_len (point_in b) 0 (point_count b) i i d below (omega arith)
    ∙ ap (point_in b) (sym e) ∙ point_at_index b p h

pub count_is : (b : Box3) → length (points_in b) ≡ point_count b
count_is b = length-map-range_with_len (point_in b) 0 (point_count b)

-- What holds of the points before, and goes on over each point of the hole, holds behind them.
pub passes_over : (P : List Point → Type 0) (z : Zone) (p : Point) (n : ℕ)
    → ((points : List Point) (y : Point) → in_zone z y ≡ false → P points → P (points ++ y ∷ []))
    → IsIn z.all p → ((k : ℕ) → k < n → IsOutside z (beside p k))
    → P (take (index_in z.all p) (points_in z.all))
    → P (take (index_in z.all p + n) (points_in z.all))
passes_over P z p zero step here out was =
    let same : index_in z.all p ≡ index_in z.all p + 0 = omega arith in
    subst (λ i. P (take i (points_in z.all))) same was
passes_over P z p (suc n) step here out was =
    let pts = points_in z.all in
    let at = index_in z.all p + n in
    let last = out n (omega arith) in
    let before = passes_over P z p n step here (λ k l. out k (omega (arith, l))) was in
    let place : index_in z.all (beside p n) ≡ at = row_index z.all p n here.x.from in
    let inside : at < point_count z.all =
    subst (λ i. i < point_count z.all) place (index_below z.all (beside p n) last.all) in
    let below : at < length pts = omega (arith, inside, count_is z.all) in
    let next : take (at + 1) pts ≡ take at pts ++ beside p n ∷ [] =
    take_more pts at (beside p n) below
    ∙ ap (λ q. take at pts ++ q ∷ [])
    (point_here z.all (beside p n) at (beside p n) last.all place)
    in
    let one : at + 1 ≡ index_in z.all p + suc n = omega arith in
    subst (λ i. P (take i pts)) one
    (subst P (sym next) (step (take at pts) (beside p n) last.hole before))

-- the point at a place, and one more
pub passes_one : (b : Box3) (at : ℕ) (p : Point) → at < point_count b → p ≡ point_in b at
    → take at (points_in b) ++ p ∷ [] ≡ take (at + 1) (points_in b)
passes_one b at p l e =
    let pts = points_in b in
    let below : at < length pts = omega (arith, l, count_is b) in
    let here : get_or pts at p ≡ p =
    get_or-map-range_with_len (point_in b) 0 (point_count b) at at p l (omega arith) ∙ sym e in
    sym (take_more pts at p below ∙ ap (λ q. take at pts ++ q ∷ []) here)

-- a point that stands at a place of the list
pub record IsAt (b : Box3) (k : ℕ) (p : Point) : Type 0 where
  pub below : k < point_count b
  pub place : p ≡ point_in b k
  pub inside : IsIn b p

pub is_at : (b : Box3) (k : ℕ) (p : Point) → k < length (points_in b) → p ≡ get_or (points_in b) k p
    → IsAt b k p
is_at b k p l e =
    let below : k < point_count b = omega (arith, l, count_is b) in
    let place : p ≡ point_in b k =
    e ∙ get_or-map-range_with_len (point_in b) 0 (point_count b) k k p below (omega arith) in
    record {
      below = below;
      place = place;
      inside = subst (IsIn b) (sym place) (point_inside b k below);
    }

pub one_longer : {X : Type 0} (xs : List X) (x : X) → length (xs ++ x ∷ []) ≡ length xs + 1
one_longer xs x = length-append xs (x ∷ [])

-- and all of them
pub passes_all : (b : Box3) (at : ℕ) → (at < point_count b → ⊥)
    → take at (points_in b) ≡ points_in b
passes_all b at end =
    let all : length (points_in b) ≤ at = omega (arith, end, count_is b) in
    take_all at (points_in b) all

-- ---- a zone's box has no more points than the part holds

within_gap : (low high a b : ℤ) → low ≤ℤ a → b ≤ℤ high → int_gap a b ≤ int_gap low high
within_gap low high a b from to =
    by_lt_z a b
    (λ l.
    let own : a ≤ℤ b = omega (arith, ints) in
    let all : low ≤ℤ high = omega (arith, ints, from, to) in
    omega (arith, ints, gap_up a b own, gap_up low high all, from, to))
    (λ l. omega (arith, gap_none a b l))

inner_from : (ring : Bool) (low g : ℤ) → low ≤ℤ (if ring then low else int_max low g)
inner_from true low g = omega (arith, ints)
inner_from false low g = omega (arith, ints, clamps)

inner_to : (ring : Bool) (high end : ℤ) → (if ring then high else int_min high end) ≤ℤ high
inner_to true high end = omega (arith, ints)
inner_to false high end = omega (arith, ints, clamps)

-- one direction: what is inside of an owned span is inside of the local one
side : (ring own_ring : Bool) (n g h a b e : ℤ)
    → IsAround n g a b (widened_from ring g a) (widened_to ring n g b)
    → int_gap (if own_ring then a else int_max a h) (if own_ring then b else int_min b e)
    ≤ int_gap (widened_from ring g a) (widened_to ring n g b)
side ring own_ring n g h a b e r =
    let low = inner_from own_ring a h in
    let high = inner_to own_ring b e in
    within_gap (widened_from ring g a) (widened_to ring n g b) (if own_ring then a else int_max a h)
    (if own_ring then b else int_min b e)
    (omega (arith, ints, low, r.low_to)) (omega (arith, ints, high, r.high_from))

pub zone_small : (s : Shape) (own loc : Box3) (region : Region) → IsPart s own loc
    → IsSmall (zone_of s own loc region).all
zone_small s own loc Boundary part = local_small s own loc part
zone_small s own loc Everywhere part = local_small s own loc part
zone_small s own loc Interior part =
    let w = widened s own.low own.high in
    let small : point_count w < 2 ^ 32 = subst IsSmall part.local_is (local_small s own loc part) in
    let i = inner s own in
    let few : point_count i ≤ point_count w =
    product (extent i 0) (extent i 1) (extent i 2) (extent w 0) (extent w 1) (extent w 2)
    (side (is_periodic s 0) (is_periodic s 0) s.n.x s.ghost_.x s.ghost_.x own.low.x own.high.x
    (s.n.x -ℤ s.ghost_.x) (around_x s own loc part))
    (side (is_periodic s 1) (is_periodic s 1) s.n.y s.ghost_.y s.ghost_.y own.low.y own.high.y
    (s.n.y -ℤ s.ghost_.y) (around_y s own loc part))
    (side (is_periodic s 2) (is_periodic s 2) s.n.z s.ghost_.z s.ghost_.z own.low.z own.high.z
    (s.n.z -ℤ s.ghost_.z) (around_z s own loc part))
    in
    omega (arith, small, few)

-- ---- a run of the hole

-- a point of a zone's box lies in the zone where it doesn't lie in the hole
pub in_zone_from : (z : Zone) (p : Point) → IsIn z.all p → has_point z.hole p ≡ false
    → in_zone z p ≡ true
in_zone_from z p all out = rw (in_from z.all p all, out) refl

-- from a point of the hole on, up to the end of the hole or of the box
pub hole_run : (z : Zone) (p : Point) (n : ℕ) (end : ℤ) → IsIn z.all p → has_point z.hole p ≡ true
    → (p.x +ℤ pos n) ≡ end → end ≡ int_min z.hole.high.x z.all.high.x → (k : ℕ) → k < n
    → IsOutside z (beside p k)
hole_run z p n end all hole to least k l =
    let inside = in_is z.hole p hole in
    let last : (p.x +ℤ pos n) ≡ int_min z.hole.high.x z.all.high.x = to ∙ least in
    let in_all : IsIn z.all (beside p k) =
    record {
      x = record {
        from = omega (arith, ints, all.x.from);
        below = omega (arith, ints, clamps, last, l);
      };
      y = all.y;
      z = all.z;
    }
    in
    let in_hole : IsIn z.hole (beside p k) =
    record {
      x = record {
        from = omega (arith, ints, inside.x.from);
        below = omega (arith, ints, clamps, last, l);
      };
      y = inside.y;
      z = inside.z;
    }
    in
    record {
      all = in_all;
      hole =
          rw (in_from z.all (beside p k) in_all, in_from z.hole (beside p k) in_hole) refl;
    }

-- that is one point at least
pub some_left : (z : Zone) (p : Point) (n : ℕ) (end : ℤ) → IsIn z.all p → has_point z.hole p ≡ true
    → (p.x +ℤ pos n) ≡ end → end ≡ int_min z.hole.high.x z.all.high.x → n ≡ 0 → in_zone z p ≡ true
some_left z p n end all hole to least none =
    let inside = in_is z.hole p hole in
    let last : (p.x +ℤ pos n) ≡ int_min z.hole.high.x z.all.high.x = to ∙ least in
    absurd (omega (arith, ints, clamps, inside.x.below, all.x.below, last, none))

-- ---- a Cell item's zone

pub its_small : (z : Zone) (p : PatchValue) (x : Item) → IsPatch p → x.kind ≡ Cell
    → z ≡ swept_zone p x → IsSmall z.all
its_small z p x its cell is =
    let same : z ≡ zone_of p.shape p.owned p.local (region_of x.writes) =
    is ∙ ap (λ k. item_zone k p.shape p.owned p.local (region_of x.writes)) cell
    in
    subst (λ (t : Zone). IsSmall t.all) (sym same)
    (zone_small p.shape p.owned p.local (region_of x.writes) its.part)

-- a box with points ends behind its beginning
pub box_of : (b : Box3) (i : ℕ) → i < point_count b → IsBox b
box_of b i l =
    let h = point_inside b i l in
    record {
      x = omega (arith, ints, h.x.from, h.x.below);
      y = omega (arith, ints, h.y.from, h.y.below);
      z = omega (arith, ints, h.z.from, h.z.below);
    }

-- the point at a place stands there in the list
pub stands_at : (b : Box3) (at : ℕ) (p : Point) → at < point_count b → p ≡ point_in b at
    → (at < length (points_in b)) × (p ≡ get_or (points_in b) at p)
stands_at b at p l e =
    let below : at < length (points_in b) = omega (arith, l, count_is b) in (
      below,
      sym (get_or-map-range_with_len (point_in b) 0 (point_count b) at at p l (omega arith)
          ∙ sym e),
    )

-- the same as `passes_over`, from the place of the point on
pub passes_from : (P : List Point → Type 0) (z : Zone) (p : Point) (at n : ℕ)
    → at < point_count z.all → p ≡ point_in z.all at
    → ((points : List Point) (y : Point) → in_zone z y ≡ false → P points → P (points ++ y ∷ []))
    → IsIn z.all p → ((k : ℕ) → k < n → IsOutside z (beside p k))
    → P (take at (points_in z.all)) → P (take (at + n) (points_in z.all))
passes_from P z p at n l e step here out was =
    let place : index_in z.all p ≡ at = ap (index_in z.all) e ∙ index_at_point z.all at l in
    subst (λ i. P (take (i + n) (points_in z.all))) place
    (passes_over P z p n step here out (subst (λ i. P (take i (points_in z.all))) (sym place) was))
