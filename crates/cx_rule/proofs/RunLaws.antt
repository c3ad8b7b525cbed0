-- Rows of a box, and the places of a row that a zone holds.
use Rattle.std.proofs.Common.{◌≡◌, ℕ, max, ◌+◌, ◌*◌, ◌/◌, ◌%◌, ◌<◌, ◌≤◌, ◌⊎◌, inl, inr, Bool, true, false, true≢false, not, ◌&&◌, arith, refl, sym, ap, ◌∙◌, mul-le-mul_left, mul_assoc, mul_comm, ℤ, pos, ◌+ℤ◌, ◌≤ℤ◌}
use Rattle.std.specs.Int.{int_gap, int_min, int_max}
use Rattle.std.proofs.lemmas.Int.{ints, clamps, by_lt_z}
use Rattle.std.proofs.lemmas.Bool.{and_parts, and_from, cases_lt}
use Rattle.std.proofs.Math.Nat.{mul-div_cancel_left}
use Rattle.cx_grid.specs.declared.boxes.Point.{Point}
use Rattle.cx_grid.specs.declared.boxes.Box3.{Box3}
use Rattle.cx_grid.specs.Boxes.{IsIn, IsBox, is_on, has_point, extent, point_count, index_in, point_in}
use Rattle.cx_grid.proofs.Places.{gap_up, index_at_point, point_at_index, point_inside}
use Rattle.cx_grid.proofs.Points.{in_is, in_from, on_is, on_from}
use Rattle.cx_rule.specs.Patches.{PatchValue, IsPatch, beside}
use Rattle.cx_rule.specs.Runs.{row_count, IsOffset, InRuns, IsSpan, IsBetween, IsRuns}
use Rattle.cx_rule.specs.Zones.{in_zone}
use Rattle.cx_rule.specs.declared.runs.Span.{Span}
use Rattle.cx_rule.specs.declared.runs.Runs.{Runs}
use Rattle.cx_rule.specs.declared.zone.Zone.{Zone}
use Rattle.cx_rule.proofs.FaceLaws.{spans, row_index, row_inside}

-- ---- rows

pub local_wide : (p : PatchValue) → IsPatch p → 0 < extent p.local 0
local_wide p s =
    let r = spans p.shape p.owned p.local s.part 0 (omega arith) in
    let o = s.part.x.some in
    omega (
      arith,
      ints,
      r.low,
      o,
      r.high,
      gap_up p.local.low.x p.local.high.x (omega (arith, ints, r.low, o, r.high)),
    )

pub rows_by : (x y z : ℕ) → 0 < x → x * y * z / x ≡ y * z
rows_by x y z h = ap (λ n. n / x) (mul_assoc x y z) ∙ mul-div_cancel_left (y * z) h

pub row_room : (x y z row : ℕ) → row < y * z → row * x + x ≤ x * y * z
row_room x y z row h =
    let m : x * (row + 1) ≤ x * (y * z) = mul-le-mul_left x (omega arith) in
    let e : x * y * z ≡ x * (y * z) = mul_assoc x y z in
    let f : row * x ≡ x * row = mul_comm row x in
    let g : x * (row + 1) ≡ x * row + x = omega arith in
    omega (arith, m, e, f, g)

pub row_next : (row x : ℕ) → (row + 1) * x ≡ row * x + x
row_next row x =
    let e : (row + 1) * x ≡ x * (row + 1) = mul_comm (row + 1) x in
    let f : row * x ≡ x * row = mul_comm row x in
    let g : x * (row + 1) ≡ x * row + x = omega arith in
    omega (arith, e, f, g)

pub rows_all : (b : Box3) (k : ℕ) → k ≡ row_count b → k * extent b 0 ≡ point_count b
rows_all b k e =
    ap (λ n. n * extent b 0) e ∙ mul_comm (extent b 1 * extent b 2) (extent b 0)
    ∙ sym (mul_assoc (extent b 0) (extent b 1) (extent b 2))

-- ---- offsets

pub offset_is : (b : Box3) (c : ℤ) (at : ℕ) → b.low.x ≤ℤ b.high.x
    → at ≡ int_gap b.low.x (int_min (int_max c b.low.x) b.high.x) → IsOffset b c at
offset_is b c at h e =
    let over : b.low.x ≤ℤ int_min (int_max c b.low.x) b.high.x = omega (arith, ints, clamps, h) in
    let under : int_min (int_max c b.low.x) b.high.x ≤ℤ b.high.x = omega (arith, ints, clamps) in
    let g = gap_up b.low.x (int_min (int_max c b.low.x) b.high.x) over in
    let w = gap_up b.low.x b.high.x h in
    record {
      most = omega (arith, ints, e, g, w, under);
      to = λ i l m. omega (arith, ints, clamps, e, g, w, l, m);
      from = λ i l m. omega (arith, ints, clamps, e, g, w, l, m);
    }

-- ---- spans

module _ (part b : Box3) (low : Point) (start : low.x ≡ b.low.x) where
  abbrev in_rows : Bool
  in_rows = is_on part.low.y part.high.y low.y && is_on part.low.z part.high.z low.z

  pub span_is : (from to high : ℕ) → in_rows ≡ true → IsOffset b part.low.x from
      → IsOffset b part.high.x to → high ≡ max to from
      → IsSpan part b low (record { from = from; to = high })
  span_is from to high on f t e = record {
    order = omega (arith, e);
    most = let m = f.most in let n = t.most in omega (arith, e, m, n);
    to = within;
    from = inside;
  }
    where
      within : (i : ℕ) → i < extent b 0 → IsIn part (beside low i) → (from ≤ i) × (i < high)
      within i l h =
          let a : part.low.x ≤ℤ (b.low.x +ℤ pos i) = omega (arith, ints, start, h.x.from) in
          (f.to i l a, below (cases_lt i to))
        where
          below : (i < to) ⊎ (to ≤ i) → i < high
          below (inl k) = omega (arith, k, e)
          below (inr k) = let a = t.from i l k in absurd (omega (arith, ints, a, start, h.x.below))

      inside : (i : ℕ) → (from ≤ i) × (i < high) → IsIn part (beside low i)
      inside i h =
          let p = and_parts (is_on part.low.y part.high.y low.y)
          (is_on part.low.z part.high.z low.z) on in
          let k : i < to = omega (arith, h.0, h.1, e) in
          let m = t.most in
          let l : i < extent b 0 = omega (arith, k, m) in
          let a = f.from i l h.0 in
          record {
            x = record {
              from = omega (arith, ints, start, a);
              below = by_lt_z (low.x +ℤ pos i) part.high.x (λ r. r)
                  (λ r. absurd (over (t.to i l (omega (arith, ints, r, start))) k));
            };
            y = on_is part.low.y part.high.y low.y p.0;
            z = on_is part.low.z part.high.z low.z p.1;
          }
        where
          over : to ≤ i → i < to → ⊥
          over u v = omega (arith, u, v)

  pub span_none : in_rows ≡ false → IsSpan part b low (record { from = 0; to = 0 })
  span_none off = record {
    order = omega arith;
    most = omega arith;
    to = λ i l h. absurd (no i h);
    from = λ i h. absurd (omega (arith, h.1));
  }
    where
      no : (i : ℕ) → IsIn part (beside low i) → ⊥
      no i h =
          let t : in_rows ≡ true =
          and_from (is_on part.low.y part.high.y low.y) (is_on part.low.z part.high.z low.z)
          (on_from part.low.y part.high.y low.y h.y) (on_from part.low.z part.high.z low.z h.z) in
          true≢false (sym t ∙ off)

-- ---- a row of a zone

module _ (b : Box3) (start : ℕ) (order : IsBox b) (wide : 0 < extent b 0)
    (room : start + extent b 0 ≤ point_count b) (first : start % extent b 0 ≡ 0) where
  pub starts_row : (point_in b start).x ≡ b.low.x
  starts_row = rw first (omega (arith, ints))

  pub row_point : (i : ℕ) → i < extent b 0 → point_in b (start + i) ≡ beside (point_in b start) i
  row_point i l =
      let inside = point_inside b start (omega (arith, wide, room)) in
      let o = order.x in
      let high : ((point_in b start).x +ℤ pos (extent b 0)) ≤ℤ b.high.x =
      omega (arith, ints, starts_row, gap_up b.low.x b.high.x o) in
      let e : index_in b (beside (point_in b start) i) ≡ start + i =
      row_index b (point_in b start) i inside.x.from
      ∙ ap (λ k. k + i) (index_at_point b start (omega (arith, wide, room))) in
      ap (point_in b) (sym e)
      ∙ point_at_index b (beside (point_in b start) i)
      (row_inside b (point_in b start) (extent b 0) i inside high l)

  pub runs_are : (zone : Zone) (low : Point) (all hole : Span) (r : Runs) → low ≡ point_in b start
      → IsSpan zone.all b low all → IsSpan zone.hole b low hole
      → IsBetween all hole r → IsRuns zone b start r
  runs_are zone low all hole r e a h n =
      let am = a.most in
      let nm = n.most in
      record {
        before = n.before;
        middle = n.middle;
        behind = n.behind;
        most = omega (arith, am, nm);
        to = to;
        from = from;
      }
    where
      here : (i : ℕ) → i < extent b 0 → point_in b (start + i) ≡ beside low i
      here i l = row_point i l ∙ ap (λ (p : Point). beside p i) (sym e)

      to : (i : ℕ) → i < extent b 0 → in_zone zone (point_in b (start + i)) ≡ true → InRuns r i
      to i l z =
          let t : in_zone zone (beside low i) ≡ true = sym (ap (in_zone zone) (here i l)) ∙ z in
          let p = and_parts (has_point zone.all (beside low i))
          (not (has_point zone.hole (beside low i))) t in
          n.to i (a.to i l (in_is zone.all (beside low i) p.0))
          (λ s. not_both (has_point zone.hole (beside low i))
          (in_from zone.hole (beside low i) (h.from i s)) p.1)
        where
          not_both : (t : Bool) → t ≡ true → not t ≡ true → ⊥
          not_both true u v = absurd cc
          not_both false u v = absurd cc

      from : (i : ℕ) → InRuns r i → in_zone zone (point_in b (start + i)) ≡ true
      from i s =
          let p = n.from i s in
          let am = a.most in
          let l : i < extent b 0 = omega (arith, p.0.1, am) in
          ap (in_zone zone) (here i l)
          ∙ and_from (has_point zone.all (beside low i)) (not (has_point zone.hole (beside low i)))
          (in_from zone.all (beside low i) (a.from i p.0))
          (off (has_point zone.hole (beside low i)) refl)
        where
          off : (t : Bool) → has_point zone.hole (beside low i) ≡ t
              → not (has_point zone.hole (beside low i)) ≡ true
          off true u =
              let p = n.from i s in
              let am = a.most in
              let l : i < extent b 0 = omega (arith, p.0.1, am) in
              absurd (p.1 (h.to i l (in_is zone.hole (beside low i) u)))
          off false u = rw u refl
