-- The places of a row of a box that a zone holds, and what is done at them.
use Rattle.std.specs.Prelude.{ℕ, ◌+◌, ◌*◌, ◌-◌, ◌≤◌, ◌<◌, ◌≡◌, ◌⊎◌, Bool, true, false, not, ◌&&◌, ◌||◌, ℤ, pos, ◌+ℤ◌, ◌≤ℤ◌, int_le, List, [], ◌∷◌, length, map, take, drop, slice_index_or}
use Rattle.std.specs.List.{range_with_len, list_all}
use Rattle.cx_text.specs.declared.ctype.CType.{CType}
use Rattle.cx_grid.specs.declared.boxes.Point.{Point}
use Rattle.cx_grid.specs.declared.boxes.Box3.{Box3}
use Rattle.cx_grid.specs.Boxes.{IsIn, extent, point_in, points_in, index_in}
use Rattle.cx_plan.specs.declared.item.Touch.{Touch}
use Rattle.cx_plan.specs.Setups.{Setup}
use Rattle.cx_plan.specs.Lookups.{variable}
use Rattle.cx_plan.specs.Types.{least, greatest}
use Rattle.cx_rule.specs.Patches.{beside}
use Rattle.cx_rule.specs.Staging.{mixed_at}
use Rattle.cx_rule.specs.Zones.{in_zone}
use Rattle.cx_rule.specs.declared.runs.Span.{Span}
use Rattle.cx_rule.specs.declared.runs.Runs.{Runs}
use Rattle.cx_rule.specs.declared.zone.Zone.{Zone}

-- how many rows a box has
abbrev pub row_count : Box3 → ℕ
row_count b = extent b 1 * extent b 2

-- the first place of a row that has a coordinate from this one on
pub record IsOffset (b : Box3) (c : ℤ) (at : ℕ) : Type 0 where
  pub most : at ≤ extent b 0
  pub to : (i : ℕ) → i < extent b 0 → c ≤ℤ (b.low.x +ℤ pos i) → at ≤ i
  pub from : (i : ℕ) → i < extent b 0 → at ≤ i → c ≤ℤ (b.low.x +ℤ pos i)

-- a place of a span, and of one of two
abbrev pub InSpan : Span → ℕ → Type 0
InSpan s i = (s.from ≤ i) × (i < s.to)

abbrev pub InRuns : Runs → ℕ → Type 0
InRuns r i = InSpan r.before i ⊎ InSpan r.behind i

-- the places of a row at which a box's points stand
pub record IsSpan (part b : Box3) (low : Point) (s : Span) : Type 0 where
  pub order : s.from ≤ s.to
  pub most : s.to ≤ extent b 0
  pub to : (i : ℕ) → i < extent b 0 → IsIn part (beside low i) → InSpan s i
  pub from : (i : ℕ) → InSpan s i → IsIn part (beside low i)

-- two spans, one behind the other, with the places of the one and not of the other
pub record IsBetween (all hole : Span) (r : Runs) : Type 0 where
  pub before : r.before.from ≤ r.before.to
  pub middle : r.before.to ≤ r.behind.from
  pub behind : r.behind.from ≤ r.behind.to
  pub most : r.behind.to ≤ all.to
  pub to : (i : ℕ) → InSpan all i → (InSpan hole i → ⊥) → InRuns r i
  pub from : (i : ℕ) → InRuns r i → InSpan all i × (InSpan hole i → ⊥)

-- the places of the row from a place on at which a zone's points stand
pub record IsRuns (zone : Zone) (b : Box3) (start : ℕ) (r : Runs) : Type 0 where
  pub before : r.before.from ≤ r.before.to
  pub middle : r.before.to ≤ r.behind.from
  pub behind : r.behind.from ≤ r.behind.to
  pub most : r.behind.to ≤ extent b 0
  pub to : (i : ℕ) → i < extent b 0 → in_zone zone (point_in b (start + i)) ≡ true → InRuns r i
  pub from : (i : ℕ) → InRuns r i → in_zone zone (point_in b (start + i)) ≡ true

-- the numbers of a span of a row
abbrev pub numbers_on : List ℤ → ℕ → Span → List ℤ
numbers_on values start s = take (s.to - s.from) (drop (start + s.from) values)

-- whether numbers lie in a range
abbrev pub is_within : ℤ → ℤ → ℤ → Bool
is_within least greatest n = int_le least n && int_le n greatest

abbrev pub are_within : ℤ → ℤ → List ℤ → Bool
are_within least greatest ns = list_all (is_within least greatest) ns

-- whether a point lies outside of a zone, or its number in a range
abbrev pub fits_at : Box3 → Zone → List ℤ → (least greatest : ℤ) → Point → Bool
fits_at b zone values least greatest y =
    not (in_zone zone y) || is_within least greatest (slice_index_or values (index_in b y) (pos 0))

-- whether the numbers at a zone's points are of a type
abbrev pub fits_zone : Box3 → Zone → List ℤ → CType → Bool
fits_zone b zone values t = list_all (fits_at b zone values (least t) (greatest t)) (points_in b)

-- whether all that is staged for these writes at a zone's points is in their variables' types
abbrev pub levels_fit : Setup → Box3 → Zone → List Touch → List (List ℤ) → Bool
levels_fit setup b zone [] buffers = true
levels_fit setup b zone (w ∷ ws) [] = false
levels_fit setup b zone (w ∷ ws) (buffer ∷ buffers) =
    fits_zone b zone buffer (variable setup w.var).ctype && levels_fit setup b zone ws buffers

-- the points of a row
abbrev pub row_points : Box3 → ℕ → List Point
row_points b row = map (point_in b) (range_with_len (row * extent b 0) (extent b 0))

-- a row's numbers at a zone's points are other ones, and all else is as before
pub record SetsRow (b : Box3) (zone : Zone) (within : List ℤ) (row : ℕ)
    (old new : List ℤ) : Type 0 where
  pub count : length new ≡ length old
  pub here : (i : ℕ) → i < extent b 0
      → slice_index_or new (row * extent b 0 + i) (pos 0)
      ≡ mixed_at b zone within old (point_in b (row * extent b 0 + i))
  pub there : (j : ℕ) → (j < row * extent b 0) ⊎ (row * extent b 0 + extent b 0 ≤ j)
      → slice_index_or new j (pos 0) ≡ slice_index_or old j (pos 0)

-- a row's numbers outside of a zone are those of a level, and all else is as before
pub record KeepsRow (b : Box3) (zone : Zone) (level : List ℤ) (row : ℕ)
    (old new : List ℤ) : Type 0 where
  pub count : length new ≡ length old
  pub here : (i : ℕ) → i < extent b 0
      → slice_index_or new (row * extent b 0 + i) (pos 0)
      ≡ mixed_at b zone old level (point_in b (row * extent b 0 + i))
  pub there : (j : ℕ) → (j < row * extent b 0) ⊎ (row * extent b 0 + extent b 0 ≤ j)
      → slice_index_or new j (pos 0) ≡ slice_index_or old j (pos 0)

-- a span of a row has the numbers that stand there in another list, and all else is as before
pub record SetsSpan (within : List ℤ) (start : ℕ) (s : Span) (old new : List ℤ) : Type 0 where
  pub count : length new ≡ length old
  pub here : (i : ℕ) → InSpan s i
      → slice_index_or new (start + i) (pos 0) ≡ slice_index_or within (start + i) (pos 0)
  pub below : (j : ℕ) → j < start + s.from
      → slice_index_or new j (pos 0) ≡ slice_index_or old j (pos 0)
  pub above : (j : ℕ) → start + s.to ≤ j
      → slice_index_or new j (pos 0) ≡ slice_index_or old j (pos 0)

-- the k-th of some lists has other numbers, as many as before
pub record SpendsOne (k : ℕ) (old new : List (List ℤ)) : Type 0 where
  pub sizes : map length new ≡ map length old
  pub others : (j : ℕ) → (j ≡ k → ⊥) → slice_index_or new j [] ≡ slice_index_or old j []
