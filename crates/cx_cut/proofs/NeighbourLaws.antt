-- Each cut obeys the law of neighbours.
use Rattle.std.proofs.Common.{◌≡◌, ℕ, zero, suc, ◌<◌, ◌≤◌, Bool, true, false, arith, refl, sym, ap, ◌∙◌, subst, ℤ, pos, ◌+ℤ◌, ◌-ℤ◌, ◌≤ℤ◌, ◌<ℤ◌, List, Some, None, ◌⊎◌, inl, inr, cond, eqb}
use Rattle.std.specs.Prelude.{int_le, if◌then◌else◌}
use Rattle.std.proofs.lemmas.Int.{ints, by_lt_z}
use Rattle.std.proofs.lemmas.Bool.{cases_eq}
use Rattle.cx_grid.specs.declared.boxes.Point.{Point}
use Rattle.cx_grid.specs.declared.boxes.Box3.{Box3}
use Rattle.cx_grid.specs.declared.shapes.Side.{Side}
use Rattle.cx_grid.specs.declared.shapes.Side.TheVariants.{Low, High}
use Rattle.cx_grid.specs.Boxes.{along, IsOn, IsIn, point_count, index_in, point_in}
use Rattle.cx_grid.specs.Grid.{IsShape, is_periodic, wrap}
use Rattle.cx_grid.proofs.Places.{point_at_index}
use Rattle.cx_cut.specs.Axis.{own_low, own_high, local_low, local_high, next_place, IsAxisCut}
use Rattle.cx_cut.specs.Cuts.{Parts, widths, parts_along, part_count, place_along, IsCut, owned_low, owned_high, widened_low, widened_high, owned, local, neighbour, slab_end, slab, face_of, halo_of, IsReached}
use Rattle.cx_cut.specs.Exchange.{other}
use Rattle.cx_cut.specs.Neighbours.{partner, Received, IsOutside, Neighbours}
use Rattle.cx_cut.proofs.AxisFacts.{low_meets, high_meets, local_low_near, local_high_near}
use Rattle.cx_cut.proofs.Boxed.{along-point_by, in_along, in_by, in_by_along, cut_along, place_below, IsMoved, count_moved, point_moved}
use Rattle.cx_cut.proofs.Rounds.{Beside, low_beside, high_beside, on_slab, slab_moved}
use Rattle.cx_cut.proofs.Tiled as tiled
use Rattle.cx_cut.proofs.Symmetry as symmetry
use Rattle.cx_cut.proofs.Halos as halos
use Rattle.cx_cut.proofs.Held as held
use Rattle.cx_cut.proofs.Held.{low_room, high_room, some_next}

-- without ghosts no local point is beyond the owned ones
thin : (ring : Bool) (n g : ℤ) (ws : List ℕ) (a : ℕ) (c : ℤ) → IsAxisCut n g ws → g ≡ pos 0
    → IsOn (local_low ring g ws a) (local_high ring n g ws a) c
    → IsOn (own_low ws a) (own_high ws a) c
thin ring n g ws a c w z i =
    let near = local_low_near ring g ws a c i.from in
    let far = local_high_near ring n g ws a c i.below in
    record { from = omega (arith, ints, near, z); below = omega (arith, ints, far, z) }

-- a box holds a point or does not
on_or_not : (low high c : ℤ) → IsOn low high c ⊎ (IsOn low high c → ⊥)
on_or_not low high c =
    by_lt_z c low (λ x. inr (λ o. let f = o.from in omega (arith, ints)))
    (λ x. by_lt_z c high (λ y. inl (record { from = x; below = y }))
    (λ y. inr (λ o. let b = o.below in omega (arith, ints))))

pub in_or_not : (b : Box3) (p : Point) → IsIn b p ⊎ (IsIn b p → ⊥)
in_or_not b p = go (on_or_not b.low.x b.high.x p.x) (on_or_not b.low.y b.high.y p.y)
    (on_or_not b.low.z b.high.z p.z)
  where
    go : IsOn b.low.x b.high.x p.x ⊎ (IsOn b.low.x b.high.x p.x → ⊥)
        → IsOn b.low.y b.high.y p.y ⊎ (IsOn b.low.y b.high.y p.y → ⊥)
        → IsOn b.low.z b.high.z p.z ⊎ (IsOn b.low.z b.high.z p.z → ⊥) → IsIn b p ⊎ (IsIn b p → ⊥)
    go (inl x) (inl y) (inl z) = inl (record { x = x; y = y; z = z })
    go (inr n) y z = inr (λ i. n i.x)
    go (inl x) (inr n) z = inr (λ i. n i.y)
    go (inl x) (inl y) (inr n) = inr (λ i. n i.z)

module _ (c : Parts) (w : IsCut c) where
  module _ (k : ℕ) (l : k < part_count c) (d : ℕ) (hd : d < 3) where
    axis : IsAxisCut (along c.shape.n d) (along c.shape.ghost_ d) (widths c d)
    axis = cut_along c w d hd

    ghosts_some : (side : Side) (j : ℕ) → partner c k d side ≡ Some j
        → int_le (along c.shape.ghost_ d) (pos 0) ≡ false
    ghosts_some side j e = go (int_le (along c.shape.ghost_ d) (pos 0)) e
      where
        go : (v : Bool) → (if v then None else neighbour c k d side) ≡ Some j → v ≡ false
        go true q = absurd cc
        go false q = refl

    partner_is : (side : Side) (j : ℕ) → partner c k d side ≡ Some j → neighbour c k d side ≡ Some j
    partner_is side j e = let g = ghosts_some side j e in rw g at e

    sends_back : (side : Side) (j : ℕ) → partner c k d side ≡ Some j
        → partner c j d (other side) ≡ Some k
    sends_back side j e =
        let g = ghosts_some side j e in
        rw g (symmetry.back c w k l d hd side j (partner_is side j e))

    is_partner : (side : Side) (j : ℕ) (p : Point) → neighbour c k d side ≡ Some j
        → IsIn (halo_of c k d side) p → partner c k d side ≡ Some j
    is_partner side j p e i = go (int_le (along c.shape.ghost_ d) (pos 0)) refl
      where
        go : (v : Bool) → int_le (along c.shape.ghost_ d) (pos 0) ≡ v
            → (if v then None else neighbour c k d side) ≡ Some j
        go true z =
            let some = axis.ghosts in
            let none : along c.shape.ghost_ d ≡ pos 0 = omega (arith, ints, z, some) in
            absurd (halos.empty c w k l d hd p none side i)
        go false z = e

    -- a partner stands beside
    beside : (side : Side) (j : ℕ) → partner c k d side ≡ Some j → Beside c k d side
    beside Low j e =
        let g = ghosts_some Low j e in
        let n = some_next c k d j
        (next_place (is_periodic c.shape d) (parts_along c d) (place_along c k d) Low)
        (partner_is Low j e) in
        let r = low_room (is_periodic c.shape d) (along c.shape.n d) (along c.shape.ghost_ d)
        (widths c d) (place_along c k d) n.0 axis (place_below c k l d hd) n.1 in
        low_beside c w k l d hd
        (low_meets (is_periodic c.shape d) (along c.shape.n d) (along c.shape.ghost_ d)
        (widths c d) (place_along c k d) (own_low (widths c d) (place_along c k d) -ℤ pos 1)
        axis (place_below c k l d hd)
        (omega (arith, ints, r, g)) (omega (arith, ints)))
    beside High j e =
        let g = ghosts_some High j e in
        let n = some_next c k d j
        (next_place (is_periodic c.shape d) (parts_along c d) (place_along c k d) High)
        (partner_is High j e) in
        let r = high_room (is_periodic c.shape d) (along c.shape.n d) (along c.shape.ghost_ d)
        (widths c d) (place_along c k d) n.0 axis (place_below c k l d hd) n.1 in
        high_beside c w k l d hd
        (high_meets (is_periodic c.shape d) (along c.shape.n d) (along c.shape.ghost_ d)
        (widths c d) (place_along c k d) (own_high (widths c d) (place_along c k d)) axis
        (place_below c k l d hd)
        (omega (arith, ints)) (omega (arith, ints, r, g)))

    same_count : (side : Side) (j : ℕ) → partner c k d side ≡ Some j
        → point_count (face_of c j d (other side)) ≡ point_count (halo_of c k d side)
    same_count side j e =
        let b = beside side j e in
        let n = partner_is side j e in
        let at_j : b.j ≡ j = cc (b.is, n) in
        rw (← at_j) (count_moved _ _ b.t b.moved)

    same_point_of : (side : Side) (j : ℕ) (p : Point) → partner c k d side ≡ Some j
        → IsIn (halo_of c k d side) p
        → wrap c.shape (point_in (face_of c j d (other side)) (index_in (halo_of c k d side) p))
        ≡ wrap c.shape p
    same_point_of side j p e i =
        let b = beside side j e in
        let n = partner_is side j e in
        let at_j : b.j ≡ j = cc (b.is, n) in
        let at_place : point_in (halo_of c k d side) (index_in (halo_of c k d side) p) ≡ p =
        point_at_index (halo_of c k d side) p i in
        rw (← at_j)
        (b.same p (point_in (face_of c b.j d (other side)) (index_in (halo_of c k d side) p))
        (λ u hu. point_moved _ _ b.t b.moved (index_in (halo_of c k d side) p) u hu
        ∙ ap (λ q. along q u +ℤ b.t u) at_place))

    received : (side : Side) (p : Point) → IsIn (local c k) p → IsIn (halo_of c k d side) p
        → Received c k d p
    received side p near i =
        let b = halos.halo_beside c w k l d hd p side near i in
        record { side = side; from = b.j; partner_is = is_partner side b.j p b.is i; inside = i }

    split_of : (p : Point) → IsIn (local c k) p → Received c k d p ⊎ IsOutside c k d p
    split_of p near = go (in_or_not (halo_of c k d Low) p) (in_or_not (halo_of c k d High) p)
      where
        go : IsIn (halo_of c k d Low) p ⊎ (IsIn (halo_of c k d Low) p → ⊥)
            → IsIn (halo_of c k d High) p ⊎ (IsIn (halo_of c k d High) p → ⊥)
            → Received c k d p ⊎ IsOutside c k d p
        go (inl i) y = inl (received Low p near i)
        go (inr n) (inl i) = inl (received High p near i)
        go (inr n) (inr m) = inr
            (λ side. elim side as (λ u. IsIn (halo_of c k d u) p → ⊥) [ Low ↦ n | High ↦ m ])

    module _ (p : Point) (h : IsReached c k (suc d) p) (out : IsOutside c k d p) where
      loc : IsOn (widened_low c k d) (widened_high c k d) (along p d)
      loc = in_by_along (widened_low c k) (widened_high c k) p h.inside d hd

      on_side : (A B : ℤ) → IsOn A B (along p d) → IsIn (slab (owned c k) (local c k) d A B) p
      on_side A B here = in_by
          (slab_end d A (along (local c k).low) (along (owned c k).low))
          (slab_end d B (along (local c k).high) (along (owned c k).high)) p
          (λ e he. on_slab d e A B (along (local c k).low) (along (local c k).high)
          (along (owned c k).low) (along (owned c k).high) (along p e)
          (λ q. subst (λ z. IsOn A B (along p z)) (sym q) here)
          (λ q. in_along (local c k) p h.inside e he)
          (λ q. rw (along-point_by (owned_low c k) e he, along-point_by (owned_high c k) e he)
          (h.own e q he)))

      own_low_is : along (owned c k).low d ≡ owned_low c k d
      own_low_is = along-point_by (owned_low c k) d hd

      own_high_is : along (owned c k).high d ≡ owned_high c k d
      own_high_is = along-point_by (owned_high c k) d hd

      not_low : along p d <ℤ owned_low c k d → ⊥
      not_low x =
          let near = local_low_near (is_periodic c.shape d) (along c.shape.ghost_ d) (widths c d)
          (place_along c k d) (along p d) loc.from in
          let on : IsOn (along (owned c k).low d -ℤ along c.shape.ghost_ d)
          (along (owned c k).low d) (along p d) =
          rw own_low_is (record { from = near; below = x }) in
          out Low (on_side _ _ on)

      not_high : owned_high c k d ≤ℤ along p d → ⊥
      not_high x =
          let near = local_high_near (is_periodic c.shape d) (along c.shape.n d)
          (along c.shape.ghost_ d) (widths c d) (place_along c k d) (along p d) loc.below in
          let on : IsOn (along (owned c k).high d)
          (along (owned c k).high d +ℤ along c.shape.ghost_ d) (along p d) =
          rw own_high_is (record { from = x; below = near }) in
          out High (on_side _ _ on)

      own_here : IsOn (owned_low c k d) (owned_high c k d) (along p d)
      own_here =
          by_lt_z (along p d) (owned_low c k d) (λ x. absurd (not_low x))
          (λ x. by_lt_z (along p d) (owned_high c k d) (λ y. record { from = x; below = y })
          (λ y. absurd (not_high y)))

      before_of : IsReached c k d p
      before_of = record { inside = h.inside; own = λ e from le. go e from le (cases_eq e d) }
        where
          go : (e : ℕ) → d ≤ e → e < 3 → (e ≡ d) ⊎ (e ≡ d → ⊥)
              → IsOn (owned_low c k e) (owned_high c k e) (along p e)
          go e from le (inl q) =
              subst (λ u. IsOn (owned_low c k u) (owned_high c k u) (along p u)) (sym q) own_here
          go e from le (inr q) = h.own e (omega (arith, from, q)) le

  -- a direction that the grid doesn't have has no ghosts
  no_ghosts : IsShape c.shape → (e : ℕ) → e < 3 → c.shape.dims ≤ e → along c.shape.ghost_ e ≡ pos 0
  no_ghosts s zero l h = let some = s.some in absurd (omega (arith, some, h))
  no_ghosts s (suc zero) l h = (s.no_y (omega (arith, h))).no_ghosts
  no_ghosts s (suc (suc zero)) l h = (s.no_z (omega (arith, h))).no_ghosts
  no_ghosts s (suc (suc (suc e))) l h = absurd (omega (arith, l))

  pub neighbours : IsShape c.shape → Neighbours c
  neighbours s = record {
    there = λ k d side j l hd e.
        symmetry.neighbour_there c w k l d hd side j (partner_is k l d hd side j e);
    back = λ k d side j l hd e. sends_back k l d hd side j e;
    counts = λ k d side j l hd e. same_count k l d hd side j e;
    same = λ k d side j p l hd e i. same_point_of k l d hd side j p e i;
    face_reached = λ k d side p l hd i. tiled.face_reached c w k l d hd side p i;
    split = λ k d p l hd near. split_of k l d hd p near;
    before = λ k d p l hd h out. before_of k l d hd p h out;
    apart = λ k d p l hd i j. halos.apart c w k l d hd p i j;
    halo_local = λ k d side j p l hd e i.
        held.halo_local c w k l d hd side j (partner_is k l d hd side j e) p i;
    flat = λ k d p l h near. record {
      inside = near;
      own = λ e from le.
          thin (is_periodic c.shape e) (along c.shape.n e) (along c.shape.ghost_ e) (widths c e)
          (place_along c k e) (along p e) (cut_along c w e le)
          (no_ghosts s e le (omega (arith, h, from)))
          (in_by_along (widened_low c k) (widened_high c k) p near e le);
    };
  }

-- ---- a part's own face and halo at a side are as large

slabs_moved : (c : Parts) (k d : ℕ) (low low' high high' t : ℤ) → low' ≡ low +ℤ t
    → high' ≡ high +ℤ t
    → IsMoved (slab (owned c k) (local c k) d low high) (slab (owned c k) (local c k) d low' high')
    (λ e. cond (eqb e d) t (pos 0))
slabs_moved c k d low low' high high' t a b = record {
  low = λ e l. along-point_by (slab_end d low' (along (local c k).low) (along (owned c k).low)) e l
      ∙ slab_moved d e low low' t (along (local c k).low) (along (local c k).low)
      (along (owned c k).low) (along (owned c k).low) a (λ n. (refl, refl))
      ∙ ap (λ z. z +ℤ cond (eqb e d) t (pos 0))
      (sym (along-point_by (slab_end d low (along (local c k).low) (along (owned c k).low))
      e l));
  high = λ e l. along-point_by (slab_end d high' (along (local c k).high) (along (owned c k).high))
      e l
      ∙ slab_moved d e high high' t (along (local c k).high) (along (local c k).high)
      (along (owned c k).high) (along (owned c k).high) b (λ n. (refl, refl))
      ∙ ap (λ z. z +ℤ cond (eqb e d) t (pos 0))
      (sym (along-point_by (slab_end d high (along (local c k).high) (along (owned c k).high))
      e l));
}

back_up : (x g : ℤ) → x ≡ x -ℤ g +ℤ g
back_up x g = omega (arith, ints)

down : (x g : ℤ) → x -ℤ g ≡ x +ℤ (pos 0 -ℤ g)
down x g = omega (arith, ints)

back_down : (x g : ℤ) → x ≡ x +ℤ g +ℤ (pos 0 -ℤ g)
back_down x g = omega (arith, ints)

pub same_size : (c : Parts) (k d : ℕ) (side : Side)
    → point_count (face_of c k d side) ≡ point_count (halo_of c k d side)
same_size c k d Low = count_moved _ _ _ (slabs_moved c k d
    (along (owned c k).low d -ℤ along c.shape.ghost_ d) (along (owned c k).low d)
    (along (owned c k).low d) (along (owned c k).low d +ℤ along c.shape.ghost_ d)
    (along c.shape.ghost_ d) (back_up (along (owned c k).low d) (along c.shape.ghost_ d)) refl)
same_size c k d High = count_moved _ _ _ (slabs_moved c k d
    (along (owned c k).high d) (along (owned c k).high d -ℤ along c.shape.ghost_ d)
    (along (owned c k).high d +ℤ along c.shape.ghost_ d) (along (owned c k).high d)
    (pos 0 -ℤ along c.shape.ghost_ d) (down (along (owned c k).high d) (along c.shape.ghost_ d))
    (back_down (along (owned c k).high d) (along c.shape.ghost_ d)))
