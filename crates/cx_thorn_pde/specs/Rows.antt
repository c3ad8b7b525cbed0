-- Rows of numbers along x with those beside them, and the next numbers.
use Rattle.std.specs.Prelude.{ℕ, ℤ, pos, negsuc, ◌+◌, ◌<◌, ◌≤◌, ◌≡◌, ◌+ℤ◌, ◌-ℤ◌, ◌*ℤ◌, List, length, Option, Some, None, Bool, nat_lt, slice_index_or, if◌then◌else◌}
use Rattle.cx_rule.specs.Rows.{SeenRow, ShowsAlong}
use Rattle.cx_thorn_pde.specs.Exact.{in_64_bits, scaled}
use Rattle.cx_thorn_pde.specs.declared.star.Star.{Star}

-- the number at a place of a row
abbrev pub number_at : List ℤ → ℕ → ℤ
number_at ns i = slice_index_or ns i (pos 0)

-- two neighbours, minus twice the number between them
abbrev pub bend_of : ℤ → ℤ → ℤ → ℤ
bend_of up down here = up +ℤ down -ℤ pos 2 *ℤ here

-- the sum of the bends along x and y, and along all three directions
abbrev pub flat_of : Star → ℤ
flat_of s = bend_of s.right s.left s.here +ℤ bend_of s.above s.below s.here

abbrev pub lap_of : Star → ℤ
lap_of s = flat_of s +ℤ bend_of s.over s.under s.here

-- the numbers before a row's, the row, those below and above it along y, and those under and over
-- it along z
pub record RowValues : Type 0 where
  pub before : List ℤ
  pub row : List ℤ
  pub below : List ℤ
  pub above : List ℤ
  pub under : List ℤ
  pub over : List ℤ

abbrev pub row_values : (before row below above under over : List ℤ) → RowValues
row_values before row below above under over =
    record { before = before; row = row; below = below; above = above; under = under; over = over }

-- so many places: the numbers before begin with the first one's, and each row begins one number
-- before it and ends one behind the last
pub record HasPlaces (r : RowValues) (n : ℕ) : Type 0 where
  pub before : n ≤ length r.before
  pub row : n + 2 ≤ length r.row
  pub below : n + 2 ≤ length r.below
  pub above : n + 2 ≤ length r.above
  pub under : n + 2 ≤ length r.under
  pub over : n + 2 ≤ length r.over

-- a place's number and its neighbours
abbrev pub star_at : RowValues → ℕ → Star
star_at r i =
    record {
      here = number_at r.row (i + 1);
      left = number_at r.row i;
      right = number_at r.row (i + 2);
      below = number_at r.below (i + 1);
      above = number_at r.above (i + 1);
      under = number_at r.under (i + 1);
      over = number_at r.over (i + 1);
    }

-- twice the number, minus the one before, and a factor, in 256ths, times the bend
abbrev pub next_of : (factor before : ℤ) → Star → ℤ
next_of factor before s = pos 2 *ℤ s.here -ℤ before +ℤ scaled factor (lap_of s)

-- the same along a row, where it has 64 bits
abbrev pub next_at : (factor : ℤ) → RowValues → ℕ → Option ℤ
next_at factor r i = in_64_bits (next_of factor (number_at r.before i) (star_at r i))

-- the first so many numbers are a function's, which gives them all
abbrev pub AreBy : (ℕ → Option ℤ) → List ℤ → ℕ → Type 0
AreBy f ns n = (i : ℕ) → i < n → f i ≡ Some (number_at ns i)

-- a function gives no number at one of the first so many places
abbrev pub LacksIn : (ℕ → Option ℤ) → ℕ → Type 0
LacksIn f n = (i : ℕ) × (i < n) × (f i ≡ None)

-- in one direction the rows along y are the row itself, and in two those along z
pub record IsAlone (dims : ℕ) (r : RowValues) : Type 0 where
  pub below : dims < 2 → r.below ≡ r.row
  pub above : dims < 2 → r.above ≡ r.row
  pub under : dims < 3 → r.under ≡ r.row
  pub over : dims < 3 → r.over ≡ r.row

-- a number in a direction that the grid has, and 0 in any other
abbrev pub if_has : Bool → ℤ → ℤ
if_has has by = if has then by else pos 0

-- the row of the first read beside this one along y, and along z; this one itself where the grid
-- lacks the direction
abbrev pub ShowsInY : (r : SeenRow) (y : ℤ) → List ℤ → Type 0
ShowsInY r y ns = ShowsAlong r 0 (if_has (nat_lt 1 r.dims) y) (pos 0) ns

abbrev pub ShowsInZ : (r : SeenRow) (z : ℤ) → List ℤ → Type 0
ShowsInZ r z ns = ShowsAlong r 0 (pos 0) (if_has (nat_lt 2 r.dims) z) ns

-- the row of the first read, and the rows beside it
pub record ShowsRows (r : SeenRow) (v : RowValues) : Type 0 where
  pub row : ShowsAlong r 0 (pos 0) (pos 0) v.row
  pub below : ShowsInY r (negsuc 0) v.below
  pub above : ShowsInY r (pos 1) v.above
  pub under : ShowsInZ r (negsuc 0) v.under
  pub over : ShowsInZ r (pos 1) v.over
