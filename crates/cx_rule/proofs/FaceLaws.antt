-- The layers at a side of a part: which points they are.
use Rattle.std.proofs.Common.{◌≡◌, ℕ, zero, suc, ◌+◌, ◌-◌, ◌<◌, ◌≤◌, ◌⊎◌, inl, inr, Bool, true, false, IsTrue, arith, refl, sym, ap, ◌∙◌, subst, ℤ, pos, ◌+ℤ◌, ◌-ℤ◌, ◌≤ℤ◌, List, length, take, drop}
use Rattle.std.specs.Prelude.{slice_index_or}
use Rattle.std.specs.Int.{int_gap}
use Rattle.std.proofs.lemmas.Int.{ints, clamps}
use Rattle.std.proofs.lemmas.List.{get_or-take, get_or-drop, length-drop, length-take-le}
use Rattle.std.proofs.lemmas.List.FromFn.{fill_by_all}
use Rattle.cx_grid.specs.declared.boxes.Point.{Point}
use Rattle.cx_grid.specs.declared.boxes.Box3.{Box3}
use Rattle.cx_grid.specs.declared.shapes.Shape.{Shape}
use Rattle.cx_grid.specs.declared.shapes.Side.{Side}
use Rattle.cx_grid.specs.declared.shapes.Side.TheVariants.{Low, High}
use Rattle.cx_grid.specs.Boxes.{along, IsBox, IsSmall, IsIn, IsOn, point_count, index_in}
use Rattle.cx_grid.specs.Grid.{IsShape, IsNearGrid, IsAxis, is_periodic}
use Rattle.cx_grid.proofs.Places.{gap_up, index_below}
use Rattle.cx_cut.specs.Axis.{widened_from, widened_to}
use Rattle.cx_cut.specs.Cuts.{widened, slab, face, halo}
use Rattle.cx_cut.proofs.Boxed.{by_direction}
use Rattle.cx_plan.specs.declared.variable.VarId.{VarId}
use Rattle.cx_plan.specs.declared.item.ItemKind.{ItemKind}
use Rattle.cx_plan.specs.declared.item.ItemKind.TheVariants.{Cell, Scalar, Sum, Least, Greatest, Count}
use Rattle.cx_rule.specs.Sweeps.{first_point}
use Rattle.cx_rule.specs.Staging.{placed_at}
use Rattle.cx_rule.specs.States.{level_of}
use Rattle.cx_rule.specs.Patches.{PatchValue, IsPart, IsOwnSpan, IsNear, IsNearPoint, beside, number_at, numbers_along}
use Rattle.cx_rule.proofs.PartLaws.{IsAround, around_x, around_y, around_z, product, local_small}

gap_within : (a b c d : ℤ) → a ≤ℤ b → c ≤ℤ d → (b -ℤ a) ≤ℤ (d -ℤ c) → int_gap a b ≤ int_gap c d
gap_within a b c d h k l = omega (arith, ints, gap_up a b h, gap_up c d k, l)

-- one direction of a part
pub record Spans (s : Shape) (own loc : Box3) (d : ℕ) : Type 0 where
  pub ghosts : pos 0 ≤ℤ along s.ghost_ d
  pub few : along s.ghost_ d ≤ℤ pos 8
  pub from : pos 0 ≤ℤ along own.low d
  pub to : along own.high d ≤ℤ pos 16777216
  pub low : along loc.low d ≤ℤ along own.low d
  pub some : along own.low d ≤ℤ along own.high d
  pub high : along own.high d ≤ℤ along loc.high d
  pub wide : (along own.low d +ℤ along s.ghost_ d) ≤ℤ along own.high d
  pub near_low : (along own.low d -ℤ along s.ghost_ d) ≤ℤ along loc.low d
  pub near_high : along loc.high d ≤ℤ (along own.high d +ℤ along s.ghost_ d)

spans_by : (s : Shape) (own loc : Box3) (d : ℕ) → IsAxis (along s.n d) (along s.ghost_ d)
    → IsOwnSpan s own d
    → IsAround (along s.n d) (along s.ghost_ d) (along own.low d) (along own.high d)
    (along loc.low d) (along loc.high d) → Spans s own loc d
spans_by s own loc d a o r = record {
  ghosts = a.least_ghosts;
  few = a.most_ghosts;
  from = o.from;
  to = omega (arith, ints, o.to, a.most);
  low = r.low_to;
  some = omega (arith, ints, o.some);
  high = r.high_from;
  wide = o.wide;
  near_low = r.low_from;
  near_high = r.high_to;
}

pub spans : (s : Shape) (own loc : Box3) → IsPart s own loc → (d : ℕ) → d < 3 → Spans s own loc d
spans s own loc h =
    let x = subst (λ (l : Box3). IsAround s.n.x s.ghost_.x own.low.x own.high.x l.low.x l.high.x)
    (sym h.local_is) (around_x s own loc h) in
    let y = subst (λ (l : Box3). IsAround s.n.y s.ghost_.y own.low.y own.high.y l.low.y l.high.y)
    (sym h.local_is) (around_y s own loc h) in
    let z = subst (λ (l : Box3). IsAround s.n.z s.ghost_.z own.low.z own.high.z l.low.z l.high.z)
    (sym h.local_is) (around_z s own loc h) in
    by_direction (λ d. Spans s own loc d) (spans_by s own loc 0 h.shape.x h.x x)
    (spans_by s own loc 1 h.shape.y h.y y) (spans_by s own loc 2 h.shape.z h.z z)

-- the ends of its layers are small numbers
module _ (s : Shape) (own loc : Box3) (h : IsPart s own loc) (d : ℕ) (l : d < 3) where
  pub low_above : IsNear (along own.low d +ℤ along s.ghost_ d)
  low_above = let r = spans s own loc h d l in
      (omega (arith, ints, r.from, r.ghosts), omega (arith, ints, r.some, r.to, r.few))

  pub low_under : IsNear (along own.low d -ℤ along s.ghost_ d)
  low_under = let r = spans s own loc h d l in
      (omega (arith, ints, r.from, r.few), omega (arith, ints, r.some, r.to, r.ghosts))

  pub high_above : IsNear (along own.high d +ℤ along s.ghost_ d)
  high_above = let r = spans s own loc h d l in
      (omega (arith, ints, r.from, r.some, r.ghosts), omega (arith, ints, r.to, r.few))

  pub high_under : IsNear (along own.high d -ℤ along s.ghost_ d)
  high_under = let r = spans s own loc h d l in
      (omega (arith, ints, r.from, r.some, r.few), omega (arith, ints, r.to, r.ghosts))

-- ---- slabs

module _ (s : Shape) (own loc : Box3) (h : IsPart s own loc) (A B : ℕ → ℤ)
    (order : (d : ℕ) → d < 3 → A d ≤ℤ B d)
    (thin : (d : ℕ) → d < 3 → (B d -ℤ A d) ≤ℤ along s.ghost_ d) where
  at : (d : ℕ) → d < 3 → Spans s own loc d
  at = spans s own loc h

  own_order : (d : ℕ) → d < 3 → along own.low d ≤ℤ along own.high d
  own_order d l = (at d l).some

  loc_order : (d : ℕ) → d < 3 → along loc.low d ≤ℤ along loc.high d
  loc_order d l = let r = at d l in omega (arith, ints, r.low, r.some, r.high)

  slab_box : (d : ℕ) → d < 3 → IsBox (slab own loc d (A d) (B d))
  slab_box =
      by_direction (λ d. IsBox (slab own loc d (A d) (B d)))
      (record {
        x = order 0 (omega arith);
        y = own_order 1 (omega arith);
        z = own_order 2 (omega arith);
      })
      (record {
        x = loc_order 0 (omega arith);
        y = order 1 (omega arith);
        z = own_order 2 (omega arith);
      })
      (record {
        x = loc_order 0 (omega arith);
        y = loc_order 1 (omega arith);
        z = order 2 (omega arith);
      })

  own_gap : (d : ℕ) → d < 3
      → int_gap (along own.low d) (along own.high d) ≤ int_gap (along loc.low d) (along loc.high d)
  own_gap d l = let r = at d l in
      gap_within _ _ _ _ r.some (loc_order d l) (omega (arith, ints, r.low, r.high))

  slab_gap : (d : ℕ) → d < 3 → int_gap (A d) (B d) ≤ int_gap (along loc.low d) (along loc.high d)
  slab_gap d l = let r = at d l in
      gap_within _ _ _ _ (order d l) (loc_order d l)
      (omega (arith, ints, r.low, r.high, r.wide, thin d l))

  loc_gap : (d : ℕ) → int_gap (along loc.low d) (along loc.high d)
      ≤ int_gap (along loc.low d) (along loc.high d)
  loc_gap d = omega arith

  slab_count : (d : ℕ) → d < 3 → point_count (slab own loc d (A d) (B d)) ≤ point_count loc
  slab_count =
      by_direction (λ d. point_count (slab own loc d (A d) (B d)) ≤ point_count loc)
      (product _ _ _ _ _ _ (slab_gap 0 (omega arith)) (own_gap 1 (omega arith))
      (own_gap 2 (omega arith)))
      (product _ _ _ _ _ _ (loc_gap 0) (slab_gap 1 (omega arith)) (own_gap 2 (omega arith)))
      (product _ _ _ _ _ _ (loc_gap 0) (loc_gap 1) (slab_gap 2 (omega arith)))

  slab_small : (d : ℕ) → d < 3 → IsSmall (slab own loc d (A d) (B d))
  slab_small d l = let n = slab_count d l in let m = local_small s own loc h in omega (arith, n, m)

  own_on : (d : ℕ) → d < 3 → (c : ℤ) → IsOn (along own.low d) (along own.high d) c
      → IsOn (along loc.low d) (along loc.high d) c
  own_on d l c o = let r = at d l in
      record {
        from = omega (arith, ints, r.low, o.from);
        below = omega (arith, ints, r.high, o.below);
      }

  slab_local : ((d : ℕ) → d < 3 → along loc.low d ≤ℤ A d)
      → ((d : ℕ) → d < 3 → B d ≤ℤ along loc.high d)
      → (d : ℕ) → d < 3 → (y : Point) → IsIn (slab own loc d (A d) (B d)) y → IsIn loc y
  slab_local low high =
      by_direction (λ d. (y : Point) → IsIn (slab own loc d (A d) (B d)) y → IsIn loc y)
      (λ y i. record {
        x = on 0 (omega arith) y.x i.x;
        y = own_on 1 (omega arith) y.y i.y;
        z = own_on 2 (omega arith) y.z i.z;
      })
      (λ y i. record {
        x = i.x;
        y = on 1 (omega arith) y.y i.y;
        z = own_on 2 (omega arith) y.z i.z;
      })
      (λ y i. record { x = i.x; y = i.y; z = on 2 (omega arith) y.z i.z })
    where
      on : (d : ℕ) (l : d < 3) (c : ℤ) → IsOn (A d) (B d) c
          → IsOn (along loc.low d) (along loc.high d) c
      on d l c o = record {
        from = omega (arith, ints, low d l, o.from);
        below = omega (arith, ints, high d l, o.below);
      }

-- ---- faces and halos

module _ (s : Shape) (own loc : Box3) (h : IsPart s own loc) where
  above : (a : ℕ → ℤ) (d : ℕ) → d < 3 → a d ≤ℤ (a d +ℤ along s.ghost_ d)
  above a d l = let r = spans s own loc h d l in omega (arith, ints, r.ghosts)

  under : (a : ℕ → ℤ) (d : ℕ) → d < 3 → (a d -ℤ along s.ghost_ d) ≤ℤ a d
  under a d l = let r = spans s own loc h d l in omega (arith, ints, r.ghosts)

  wide_above : (a : ℕ → ℤ) (d : ℕ) → d < 3 → (a d +ℤ along s.ghost_ d -ℤ a d) ≤ℤ along s.ghost_ d
  wide_above a d l = omega (arith, ints)

  wide_under : (a : ℕ → ℤ) (d : ℕ) → d < 3 → (a d -ℤ (a d -ℤ along s.ghost_ d)) ≤ℤ along s.ghost_ d
  wide_under a d l = omega (arith, ints)

  pub face_box : (d : ℕ) → d < 3 → (side : Side) → IsBox (face s own loc d side)
  face_box d l Low = slab_box s own loc h (along own.low) (λ d. along own.low d +ℤ along s.ghost_ d)
      (above (along own.low)) (wide_above (along own.low)) d l
  face_box d l High = slab_box s own loc h (λ d. along own.high d -ℤ along s.ghost_ d)
      (along own.high) (under (along own.high)) (wide_under (along own.high)) d l

  pub face_small : (d : ℕ) → d < 3 → (side : Side) → IsSmall (face s own loc d side)
  face_small d l Low = slab_small s own loc h (along own.low)
      (λ d. along own.low d +ℤ along s.ghost_ d) (above (along own.low))
      (wide_above (along own.low)) d l
  face_small d l High = slab_small s own loc h (λ d. along own.high d -ℤ along s.ghost_ d)
      (along own.high) (under (along own.high)) (wide_under (along own.high)) d l

  pub halo_box : (d : ℕ) → d < 3 → (side : Side) → IsBox (halo s own loc d side)
  halo_box d l Low = slab_box s own loc h (λ d. along own.low d -ℤ along s.ghost_ d) (along own.low)
      (under (along own.low)) (wide_under (along own.low)) d l
  halo_box d l High = slab_box s own loc h (along own.high)
      (λ d. along own.high d +ℤ along s.ghost_ d) (above (along own.high))
      (wide_above (along own.high)) d l

  pub halo_small : (d : ℕ) → d < 3 → (side : Side) → IsSmall (halo s own loc d side)
  halo_small d l Low = slab_small s own loc h (λ d. along own.low d -ℤ along s.ghost_ d)
      (along own.low) (under (along own.low)) (wide_under (along own.low)) d l
  halo_small d l High = slab_small s own loc h (along own.high)
      (λ d. along own.high d +ℤ along s.ghost_ d) (above (along own.high))
      (wide_above (along own.high)) d l

  pub face_local : (d : ℕ) → d < 3 → (side : Side) → (y : Point) → IsIn (face s own loc d side) y
      → IsIn loc y
  face_local d l Low =
      slab_local s own loc h (along own.low) (λ d. along own.low d +ℤ along s.ghost_ d)
      (above (along own.low)) (wide_above (along own.low))
      (λ d l. (spans s own loc h d l).low)
      (λ d l. let r = spans s own loc h d l in omega (arith, ints, r.wide, r.high)) d l
  face_local d l High =
      slab_local s own loc h (λ d. along own.high d -ℤ along s.ghost_ d) (along own.high)
      (under (along own.high)) (wide_under (along own.high))
      (λ d l. let r = spans s own loc h d l in omega (arith, ints, r.wide, r.low))
      (λ d l. (spans s own loc h d l).high) d l

pub below_three : (s : Shape) (d : ℕ) → IsShape s → d < s.dims → d < 3
below_three s d h l = omega (arith, h.most, l)

-- ---- rows

gap_more : (low c : ℤ) (i : ℕ) → low ≤ℤ c → int_gap low (c +ℤ pos i) ≡ int_gap low c + i
gap_more low c i h =
    let over : low ≤ℤ (c +ℤ pos i) = omega (arith, ints, h) in
    omega (arith, ints, gap_up low c h, gap_up low (c +ℤ pos i) over)

-- along x places follow one another
pub row_index : (b : Box3) (y : Point) (i : ℕ) → b.low.x ≤ℤ y.x
    → index_in b (beside y i) ≡ index_in b y + i
row_index b y i h = rw (gap_more b.low.x y.x i h) (omega arith)

pub row_inside : (b : Box3) (y : Point) (n i : ℕ) → IsIn b y → (y.x +ℤ pos n) ≤ℤ b.high.x → i < n
    → IsIn b (beside y i)
row_inside b y n i h w l = record {
  x = record { from = omega (arith, ints, h.x.from); below = omega (arith, ints, w, l) };
  y = h.y;
  z = h.z;
}

pub row_end : (b : Box3) (y : Point) (n : ℕ) → IsIn b y → (y.x +ℤ pos n) ≤ℤ b.high.x
    → index_in b y + n ≤ point_count b
row_end b y zero h w = let l = index_below b y h in omega (arith, l)
row_end b y (suc n) h w =
    let e = row_index b y n h.x.from in
    let l = index_below b (beside y n) (row_inside b y (suc n) n h w (omega arith)) in
    omega (arith, e, l)

pub row_numbers : (p : PatchValue) (v : VarId) (level : ℕ) (low : Point) (n at k : ℕ) (xs : List ℤ)
    → xs ≡ level_of p.numbers v level
    → at ≡ index_in p.local low → k ≡ n → IsIn p.local low → at + n ≤ length xs
    → take k (drop at xs) ≡ numbers_along p v level low n
row_numbers p v level low n at k xs e place size h long =
    let room : k ≤ length (drop at xs) = let r : length (drop at xs) ≡ length xs - at =
    length-drop at xs in omega (arith, r, long, size) in
    let count : length (take k (drop at xs)) ≡ n = length-take-le k (drop at xs) room ∙ size in
    fill_by_all (λ i. number_at p v level (beside low i)) (take k (drop at xs)) n (pos 0) count
    (λ i l.
    let m : i < k = omega (arith, l, size) in
    let z : at + i ≡ index_in p.local (beside low i) =
    omega (arith, place, row_index p.local low i h.x.from) in
    get_or-take k (drop at xs) i (pos 0) m ∙ get_or-drop at xs i (pos 0)
    ∙ ap (λ j. slice_index_or xs j (pos 0)) z
    ∙ ap (λ ns. slice_index_or ns (index_in p.local (beside low i)) (pos 0)) e)

-- ---- what a local point stands for

near_by : (s : Shape) (own loc : Box3) (h : IsPart s own loc) (d : ℕ) (l : d < 3) (c : ℤ)
    → IsOn (along loc.low d) (along loc.high d) c → IsNear c
near_by s own loc h d l c o =
    let r = spans s own loc h d l in (
      omega (arith, ints, o.from, r.near_low, r.from, r.few),
      omega (arith, ints, o.below, r.near_high, r.to, r.few),
    )

-- a local point's coordinates are small
pub local_is_near : (s : Shape) (own loc : Box3) → IsPart s own loc → (y : Point) → IsIn loc y
    → IsNearPoint y
local_is_near s own loc h y i = record {
  x = near_by s own loc h 0 (omega arith) y.x i.x;
  y = near_by s own loc h 1 (omega arith) y.y i.y;
  z = near_by s own loc h 2 (omega arith) y.z i.z;
}

pub near_axis : (ring : Bool) (n g a b c : ℤ)
    → IsOn (widened_from ring g a) (widened_to ring n g b) c → IsTrue ring ⊎ IsOn (pos 0) n c
near_axis true n g a b c h = inl refl
near_axis false n g a b c h =
    inr (record {
      from = omega (arith, ints, clamps, h.from);
      below = omega (arith, ints, clamps, h.below);
    })

pub local_near : (s : Shape) (own loc : Box3) → IsPart s own loc → (y : Point) → IsIn loc y
    → IsNearGrid s y
local_near s own loc h y i =
    let w : IsIn (widened s own.low own.high) y = subst (λ (l : Box3). IsIn l y) h.local_is i in
    record {
      x = near_axis (is_periodic s 0) s.n.x s.ghost_.x own.low.x own.high.x y.x w.x;
      y = near_axis (is_periodic s 1) s.n.y s.ghost_.y own.low.y own.high.y y.y w.y;
      z = near_axis (is_periodic s 2) s.n.z s.ghost_.z own.low.z own.high.z y.z w.z;
    }

zero_on : (n g : ℤ) → IsAxis n g → IsOn (pos 0) n (pos 0)
zero_on n g a = record { from = omega (arith, ints); below = omega (arith, ints, a.some) }

first_near : (s : Shape) → IsShape s → IsNearGrid s first_point
first_near s h = record {
  x = inr (zero_on _ _ h.x);
  y = inr (zero_on _ _ h.y);
  z = inr (zero_on _ _ h.z);
}

pub placed_near : (s : Shape) (own loc : Box3) → IsPart s own loc → (kind : ItemKind) (y : Point)
    → IsIn loc y → IsNearGrid s (placed_at kind y)
placed_near s own loc h Scalar y i = first_near s h.shape
placed_near s own loc h Cell y i = local_near s own loc h y i
placed_near s own loc h Sum y i = local_near s own loc h y i
placed_near s own loc h Least y i = local_near s own loc h y i
placed_near s own loc h Greatest y i = local_near s own loc h y i
placed_near s own loc h Count y i = local_near s own loc h y i
