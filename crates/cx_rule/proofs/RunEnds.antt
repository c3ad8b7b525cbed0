-- Where runs of a zone's points end.
use Rattle.std.proofs.Common.{◌≡◌, ◌⊎◌, inl, inr, ℕ, Bool, true, false, true≢false, not, refl, sym, ap, ◌∙◌, arith, ℤ, pos, ◌+ℤ◌, ◌-ℤ◌, ◌≤ℤ◌, ◌<ℤ◌, int_lt}
use Rattle.std.specs.Int.{int_min, int_max}
use Rattle.std.proofs.lemmas.Int.{ints, clamps}
use Rattle.std.proofs.lemmas.Bool.{and_parts, and_from}
use Rattle.cx_grid.specs.declared.boxes.Point.{Point}
use Rattle.cx_grid.specs.declared.boxes.Box3.{Box3}
use Rattle.cx_grid.specs.declared.shapes.Shape.{Shape}
use Rattle.cx_grid.specs.Boxes.{IsIn, has_point}
use Rattle.cx_grid.specs.Grid.{source_along}
use Rattle.cx_grid.proofs.Places.{same_point}
use Rattle.cx_grid.proofs.Points.{in_is, in_from}
use Rattle.cx_plan.specs.declared.item.Region.{Region}
use Rattle.cx_plan.specs.declared.item.Region.TheVariants.{Interior, Boundary, Everywhere}
use Rattle.cx_rule.specs.Patches.{beside}
use Rattle.cx_rule.specs.Rows.{hole_follows, IsRun, IsRunEnd}
use Rattle.cx_rule.specs.Sweeps.{window_point}
use Rattle.cx_rule.specs.Zones.{in_zone}
use Rattle.cx_rule.specs.declared.zone.Zone.{Zone}
use Rattle.cx_rule.proofs.SkipLaws.{in_zone_from}

-- ---- up to the hole

out_of : (b : Box3) (p : Point) → (IsIn b p → ⊥) → has_point b p ≡ false
out_of b p off = go (has_point b p) refl
  where
    go : (t : Bool) → has_point b p ≡ t → has_point b p ≡ false
    go true e = absurd (off (in_is b p e))
    go false e = e

module _ (z : Zone) (low : Point) (h : IsIn z.all low) where
  along_all : (i : ℕ) → (low.x +ℤ pos i) <ℤ z.all.high.x → IsIn z.all (beside low i)
  along_all i l = record {
    x = record { from = omega (arith, ints, h.x.from); below = l };
    y = h.y;
    z = h.z;
  }

  -- the hole begins at the end
  pub before_hole : (end : ℤ) → end ≡ int_min z.hole.low.x z.all.high.x → (i : ℕ)
      → (low.x +ℤ pos i) <ℤ end → in_zone z (beside low i) ≡ true
  before_hole end is i l =
      let all = along_all i (omega (arith, ints, clamps, is, l)) in
      in_zone_from z (beside low i) all
      (out_of z.hole (beside low i) (λ k. absurd (omega (arith, ints, clamps, is, l, k.x.from))))

  pub some_before : (end : ℤ) → end ≡ int_min z.hole.low.x z.all.high.x → hole_follows z low ≡ true
      → low.x <ℤ end
  some_before end is e =
      let f = and_parts (int_lt low.x z.hole.low.x)
      (has_point z.hole (record { x = z.hole.low.x; y = low.y; z = low.z })) e in
      omega (arith, ints, clamps, is, f.0, h.x.below)

  -- no hole is behind it
  pub no_hole : in_zone z low ≡ true → hole_follows z low ≡ false → (i : ℕ)
      → (low.x +ℤ pos i) <ℤ z.all.high.x → in_zone z (beside low i) ≡ true
  no_hole inside none i l =
      in_zone_from z (beside low i) (along_all i l)
      (out_of z.hole (beside low i) (λ k. go k (int_lt low.x z.hole.low.x) refl))
    where
      first : Point
      first = record { x = z.hole.low.x; y = low.y; z = low.z }

      go : IsIn z.hole (beside low i) → (t : Bool) → int_lt low.x z.hole.low.x ≡ t → ⊥
      go k true e =
          let begins : IsIn z.hole first =
          record {
            x = record {
              from = omega (arith, ints);
              below = omega (arith, ints, k.x.from, k.x.below);
            };
            y = k.y;
            z = k.z;
          } in
          true≢false
          (sym (and_from (int_lt low.x z.hole.low.x) (has_point z.hole first) e
          (in_from z.hole first begins)) ∙ none)
      go k false e =
          let here : IsIn z.hole low =
          record {
            x = record {
              from = omega (arith, ints, e);
              below = omega (arith, ints, k.x.below);
            };
            y = k.y;
            z = k.z;
          } in
          let out = (and_parts (has_point z.all low) (not (has_point z.hole low)) inside).1 in
          true≢false (sym out ∙ ap not (in_from z.hole low here))

-- ---- windows side by side

-- in a direction that is not periodic
pub inner_along : (n g c end : ℤ) (i : ℕ) → g ≤ℤ c → end ≤ℤ (n -ℤ g) → (c +ℤ pos i) <ℤ end
    → int_max g (int_min (c +ℤ pos i) (n -ℤ g -ℤ pos 1))
    ≡ int_max g (int_min c (n -ℤ g -ℤ pos 1)) +ℤ pos i
inner_along n g c end i a b l = omega (arith, ints, clamps, a, b, l)

pub one_along : (n g c : ℤ) (i : ℕ) → (c +ℤ pos i) <ℤ (c +ℤ pos 1)
    → int_max g (int_min (c +ℤ pos i) (n -ℤ g -ℤ pos 1))
    ≡ int_max g (int_min c (n -ℤ g -ℤ pos 1)) +ℤ pos i
one_along n g c i l =
    let none : i ≡ 0 = omega (arith, ints, l) in
    let same : c +ℤ pos i ≡ c = omega (arith, ints, none) in
    rw (same, none) (omega (arith, ints))

-- a boundary point's run ends where its windows do
pub boundary_end : (s : Shape) (z : Zone) (low : Point) (end last : ℤ)
    → ((i : ℕ) → (low.x +ℤ pos i) <ℤ last → in_zone z (beside low i) ≡ true)
    → low.x <ℤ end → end ≤ℤ last
    → ((i : ℕ) → (low.x +ℤ pos i) <ℤ end
    → source_along s 0 (low.x +ℤ pos i) ≡ source_along s 0 low.x +ℤ pos i)
    → IsRunEnd s Boundary z low end
boundary_end s z low end last zone some most along = record {
  some = some;
  zone = λ i l. zone i (omega (arith, ints, l, most));
  from = λ i l. same_point (along i l) refl refl;
}

pub all_end : (s : Shape) (region : Region) (z : Zone) (low : Point) (end : ℤ)
    → (region ≡ Interior) ⊎ (region ≡ Everywhere)
    → ((i : ℕ) → (low.x +ℤ pos i) <ℤ end → in_zone z (beside low i) ≡ true) → low.x <ℤ end
    → IsRunEnd s region z low end
all_end s region z low end (inl e) zone some =
    record {
      some = some;
      zone = zone;
      from = λ i l. ap (λ r. window_point s r (beside low i)) e
          ∙ ap (λ r. beside (window_point s r low) i) (sym e);
    }
all_end s region z low end (inr e) zone some =
    record {
      some = some;
      zone = zone;
      from = λ i l. ap (λ r. window_point s r (beside low i)) e
          ∙ ap (λ r. beside (window_point s r low) i) (sym e);
    }

-- ---- a run

pub run_is : (s : Shape) (region : Region) (z : Zone) (low from : Point) (end : ℤ) (count : ℕ)
    → IsRunEnd s region z low end → from ≡ window_point s region low
    → low.x +ℤ pos count ≡ end → IsRun s region z (record { from = from; low = low; count = count })
run_is s region z low from end count h is to = record {
  some = omega (arith, ints, h.some, to);
  zone = λ i l. h.zone i (omega (arith, ints, to, l));
  from = λ i l. h.from i (omega (arith, ints, to, l)) ∙ ap (λ q. beside q i) (sym is);
}
