-- What is staged in a zone's hole is left open.
use Rattle.std.proofs.Common.{◌≡◌, ℕ, ◌-◌, ◌<◌, true, false, true≢false, not, sym, ap, ◌∙◌, subst, arith, pos, ◌+ℤ◌, ◌≤ℤ◌, List, length, get_or, length-set, Some}
use Rattle.std.specs.Int.{int_gap}
use Rattle.std.proofs.lemmas.Int.{ints}
use Rattle.std.proofs.lemmas.Bool.{and_from}
use Rattle.cx_grid.specs.declared.boxes.Point.{Point}
use Rattle.cx_grid.specs.declared.boxes.Box3.{Box3}
use Rattle.cx_grid.specs.declared.shapes.Shape.{Shape}
use Rattle.cx_grid.specs.Boxes.{IsIn, has_point}
use Rattle.cx_grid.proofs.Points.{in_from}
use Rattle.cx_plan.specs.declared.item.Item.{Item}
use Rattle.cx_plan.specs.declared.item.Region.{Region}
use Rattle.cx_plan.specs.declared.item.Region.TheVariants.{Interior, Boundary, Everywhere}
use Rattle.cx_plan.specs.Regions.{region_of}
use Rattle.cx_rule.specs.Patches.{PatchValue, IsPart, IsPatch, beside}
use Rattle.cx_rule.specs.Routine.{Rule}
use Rattle.cx_rule.specs.Rows.{CanLeaveOpen, LeavesOpen, IsRowItem}
use Rattle.cx_rule.specs.Staging.{with_row_staged, staged_numbers}
use Rattle.cx_rule.specs.Swept.{swept_zone, IsSamePatch, CanSweep, IsStaged}
use Rattle.cx_rule.specs.Zones.{in_zone, inner, nothing, zone_of, IsOutside}
use Rattle.cx_rule.specs.declared.spec.Spec.{Spec}
use Rattle.cx_rule.specs.declared.zone.Zone.{Zone}
use Rattle.cx_rule.proofs.RowSteps.{staged_off}
use Rattle.cx_rule.proofs.RowSweeps.{row_point, row_gap}
use Rattle.cx_rule.proofs.SweptLaws.{zone_is, local_point}
use Rattle.cx_rule.proofs.ZoneLaws.{nothing_is, zone_local}

-- all points of a zone's box are local
all_local : (s : Shape) (owned local : Box3) (region : Region) (y : Point) → IsPart s owned local
    → IsIn (zone_of s owned local region).all y → IsIn local y
all_local s owned local Boundary y part h = h
all_local s owned local Everywhere y part h = h
all_local s owned local Interior y part h =
    zone_local s owned local Interior y part
    (and_from (has_point (inner s owned) y) (not (has_point (nothing owned) y))
    (in_from (inner s owned) y h) (ap not (nothing_is owned y)))

module _ (s : Spec) (x : Item) (old : PatchValue) (can : CanSweep s x old) (its : IsPatch old)
    (item : IsRowItem old x)
    (low : Point) (n : ℕ) (some : 0 < n)
    (out : (k : ℕ) → k < n → IsOutside (swept_zone old x) (beside low k)) where
  near : (p : PatchValue) (y : Point) → IsSamePatch p old → IsIn (swept_zone old x).all y
      → IsIn p.local y
  near p y same h =
      subst (λ (c : Box3). IsIn c y) (sym (ap (λ (q : PatchValue). q.local) same.numbers))
      (all_local old.shape old.owned old.local (region_of x.writes) y its.part
      (subst (λ (z : Zone). IsIn z.all y) (zone_is s x old can its item.kind) h))

  pub can_leave_open : (p : PatchValue) → IsSamePatch p old → CanLeaveOpen p low n
  can_leave_open p same =
      let first = near p (beside low 0) same (out 0 some).all in
      let last = near p (beside low (n - 1)) same (out (n - 1) (omega (arith, some))).all in
      record {
        buffers = let few = can.buffers in let count = same.buffers in let one = item.writes in
            omega (arith, few, count, one);
        low_in =
            record {
              x = record {
                from = omega (arith, ints, first.x.from);
                below = omega (arith, ints, first.x.below);
              };
              y = first.y;
              z = first.z;
            };
        high_in = omega (arith, ints, last.x.below, some);
      }

  module _ (rule : Rule) (iteration : ℕ) (points : List Point) (p : PatchValue) (before between : ℕ)
      (f : IsStaged old rule x iteration points p before between) (patch : IsPatch p) where
    pub opened : (new : PatchValue) → LeavesOpen p low n new
        → IsStaged old rule x iteration points new before between
    opened new t = subst (λ (q : PatchValue). IsStaged old rule x iteration points q before between)
        (sym t.2) (record {
          same = record {
            numbers = f.same.numbers;
            buffers = length-set p.staged 0 _ ∙ f.same.buffers;
          };
          numbers = λ i d l zy. f.numbers i d l zy ∙ ap Some (sym (kept (get_or points i d) zy));
          meter = f.meter;
        })
      where
        room : CanLeaveOpen p low n
        room = can_leave_open p f.same

        kept : (y : Point) → in_zone (swept_zone old x) y ≡ true
            → staged_numbers (with_row_staged p 0 low t.0) (length x.writes) y
            ≡ staged_numbers p (length x.writes) y
        kept y zy =
            let high : (low.x +ℤ pos (length t.0)) ≤ℤ p.local.high.x = let h = room.high_in in
            let m = t.1 in omega (arith, ints, h, m) in
            let here : IsIn p.local y =
            subst (λ (c : Box3). IsIn c y)
            (sym (ap (λ (q : PatchValue). q.local) f.same.numbers))
            (local_point s x old can its item.kind y zy) in
            staged_off x item.writes p patch room.buffers low t.0 room.low_in high y here
            (λ r.
            let l : int_gap low.x y.x < n = let g = row_gap low (length t.0) y r in let m = t.1 in
            omega (arith, g, m) in
            let no : in_zone (swept_zone old x) y ≡ false =
            sym (ap (in_zone (swept_zone old x)) (row_point low (length t.0) y r))
            ∙ (out (int_gap low.x y.x) l).hole in
            true≢false (sym zy ∙ no))
