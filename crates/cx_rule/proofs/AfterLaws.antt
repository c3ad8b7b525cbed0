-- A walk over a box's points, run by run: where it stands, and the point that follows.
use Rattle.std.proofs.Common.{◌≡◌, ℕ, ◌+◌, ◌-◌, ◌<◌, sym, ap, ◌∙◌, arith, take, pos, ◌+ℤ◌, ◌≤ℤ◌, ◌<ℤ◌}
use Rattle.std.proofs.lemmas.Int.{ints, by_lt_z}
use Rattle.cx_grid.specs.declared.boxes.Point.{Point}
use Rattle.cx_grid.specs.declared.boxes.Box3.{Box3}
use Rattle.cx_grid.specs.Boxes.{IsOn, IsIn, point_count, index_in, point_in, points_in}
use Rattle.cx_grid.proofs.Following.{next_y, next_z, next_none, in_next_z}
use Rattle.cx_grid.proofs.Places.{point_inside, point_at_index}
use Rattle.cx_grid.proofs.Points.{first_index}
use Rattle.cx_plan.specs.declared.item.Item.{Item}
use Rattle.cx_rule.specs.Patches.{PatchValue, beside}
use Rattle.cx_rule.specs.Routine.{Rule}
use Rattle.cx_rule.specs.Rows.{Follows}
use Rattle.cx_rule.specs.Swept.{swept_zone, IsStaged}
use Rattle.cx_rule.specs.Zones.{IsOutside}
use Rattle.cx_rule.specs.declared.zone.Zone.{Zone}
use Rattle.cx_rule.proofs.FaceLaws.{row_index}

module _ (b : Box3) (p : Point) (n : ℕ) (h : IsIn b p) (some : 0 < n)
    (row : (p.x +ℤ pos n) ≤ℤ b.high.x) where
  abbrev last : Point
  last = beside p (n - 1)

  last_in : IsIn b last
  last_in =
      record {
        x = record {
          from = omega (arith, ints, h.x.from);
          below = omega (arith, ints, row, some);
        };
        y = h.y;
        z = h.z;
      }

  last_at : index_in b last + 1 ≡ index_in b p + n
  last_at = let e = row_index b p (n - 1) h.x.from in omega (arith, e, some)

  -- in the same row
  pub after_x : (p.x +ℤ pos n) <ℤ b.high.x
      → Follows b p n (record { x = p.x +ℤ pos n; y = p.y; z = p.z })
  after_x l =
      λ more. (
        record { x = record { from = omega (arith, ints, h.x.from); below = l }; y = h.y; z = h.z },
        row_index b p n h.x.from,
      )

  module _ (ends : b.high.x ≡ (p.x +ℤ pos n)) where
    ends_x : b.high.x ≡ (last.x +ℤ pos 1)
    ends_x = omega (arith, ints, ends, some)

    low_x : IsOn b.low.x b.high.x b.low.x
    low_x = record { from = omega (arith, ints); below = omega (arith, ints, h.x.from, h.x.below) }

    -- in the next one
    pub after_y : (p.y +ℤ pos 1) <ℤ b.high.y
        → Follows b p n (record { x = b.low.x; y = p.y +ℤ pos 1; z = p.z })
    after_y l = λ more. (
      record { x = low_x; y = record { from = omega (arith, ints, h.y.from); below = l }; z = h.z },
      next_y b last last_in ends_x ∙ last_at,
    )

    -- in the next plane
    pub after_z : b.high.y ≡ (p.y +ℤ pos 1)
        → Follows b p n (record { x = b.low.x; y = b.low.y; z = p.z +ℤ pos 1 })
    after_z e = λ more.
        let below : (p.z +ℤ pos 1) <ℤ b.high.z = under more in (
          in_next_z b last (p.z +ℤ pos 1) last_in (omega (arith, ints)) below,
          next_z b last last_in ends_x e ∙ last_at,
        )
      where
        under : index_in b p + n < point_count b → (p.z +ℤ pos 1) <ℤ b.high.z
        under more = by_lt_z (p.z +ℤ pos 1) b.high.z (λ l. l) (λ l.
            let end : b.high.z ≡ (p.z +ℤ pos 1) = omega (arith, ints, l, h.z.below) in
            let all = next_none b last last_in ends_x e end in
            absurd (omega (arith, all, last_at, more)))

-- ---- where a walk stands

-- the points before a place are staged, and the next point stands there, if there is one
pub record IsWalked (old : PatchValue) (rule : Rule) (x : Item) (iteration : ℕ) (b : Box3) (at : ℕ)
    (low : Point)
    (new : PatchValue) (before after : ℕ) : Type 0 where
  pub staged : IsStaged old rule x iteration (take at (points_in (swept_zone old x).all))
      new before after
  pub here : at < point_count b → IsIn b low × (index_in b low ≡ at)

pub first_here : (b : Box3) → 0 < point_count b → IsIn b b.low × (index_in b b.low ≡ 0)
first_here b l =
    let h = point_inside b 0 l in (
      record {
        x = record { from = omega (arith, ints); below = omega (arith, ints, h.x.from, h.x.below) };
        y = record { from = omega (arith, ints); below = omega (arith, ints, h.y.from, h.y.below) };
        z = record { from = omega (arith, ints); below = omega (arith, ints, h.z.from, h.z.below) };
      },
      first_index b,
    )

pub next_here : (b : Box3) (p next : Point) (n at : ℕ) → index_in b p ≡ at → Follows b p n next
    → at + n < point_count b → IsIn b next × (index_in b next ≡ at + n)
next_here b p next n at e f l =
    let more : index_in b p + n < point_count b = omega (arith, e, l) in
    let t = f more in
    let place = t.1 in
    (t.0, omega (arith, place, e))

pub stands_there : (b c : Box3) (p : Point) (at : ℕ) → b ≡ c → IsIn b p → index_in b p ≡ at
    → p ≡ point_in c at
stands_there b c p at same h e =
    sym (point_at_index b p h) ∙ ap (point_in b) e ∙ ap (λ d. point_in d at) same

-- points outside of a zone lie in its box
pub hole_high : (z : Zone) (p : Point) (n : ℕ) → 0 < n
    → ((k : ℕ) → k < n → IsOutside z (beside p k)) → (p.x +ℤ pos n) ≤ℤ z.all.high.x
hole_high z p n some out =
    let last = (out (n - 1) (omega (arith, some))).all.x.below in
    omega (arith, ints, last, some)
