-- Rows of numbers along x with those beside them, and the next numbers.
use Rattle.std.specs.Prelude.{ℕ, ℤ, pos, negsuc, ◌+◌, ◌<◌, ◌≤◌, ◌≡◌, ◌+ℤ◌, List, length, Option, Some, None, Bool, nat_lt, slice_index_or, if◌then◌else◌}
use Rattle.cx_rule.specs.Rows.{SeenRow, ShowsAlong}
use Rattle.cx_thorn_physics.specs.Exact.{in_64_bits}
use Rattle.cx_thorn_physics.specs.Flux.{gain_between}
use Rattle.cx_thorn_physics.specs.Gas.{east, north, west, south, cell_of, turned}
use Rattle.cx_thorn_physics.specs.declared.flow.Spot.{Spot}

-- the number at a place of a row
abbrev pub number_at : List ℤ → ℕ → ℤ
number_at ns i = slice_index_or ns i (pos 0)

-- the first so many numbers of a row are a function's
abbrev pub AreBy : (ℕ → ℤ) → List ℤ → ℕ → Type 0
AreBy f ns n = (i : ℕ) → i < n → number_at ns i ≡ f i

-- ---- particles: the rows below, here and above begin one cell before the next ones

-- the cell to which these four send their particles
abbrev pub cell_amid : (left below right above : ℤ) → ℤ
cell_amid left below right above =
    pos (turned (cell_of (east left) (north below) (west right) (south above)))

-- the next cell at a place of a row
abbrev pub gas_at : (below cells above : List ℤ) → ℕ → ℤ
gas_at below cells above i =
    cell_amid (number_at cells i) (number_at below (i + 1)) (number_at cells (i + 2))
    (number_at above (i + 1))

-- ---- heat: rows with those beside them, which begin one number before the next ones

-- a row, those below and above it along y, and those under and over it along z
pub record RowValues : Type 0 where
  pub row : List ℤ
  pub below : List ℤ
  pub above : List ℤ
  pub under : List ℤ
  pub over : List ℤ

abbrev pub row_values : (row below above under over : List ℤ) → RowValues
row_values row below above under over =
    record { row = row; below = below; above = above; under = under; over = over }

-- so many places: each row begins one number before the first one and ends one behind the last
pub record HasPlaces (r : RowValues) (n : ℕ) : Type 0 where
  pub in_row : n + 2 ≤ length r.row
  pub in_below : n + 2 ≤ length r.below
  pub in_above : n + 2 ≤ length r.above
  pub in_under : n + 2 ≤ length r.under
  pub in_over : n + 2 ≤ length r.over

-- the spot at a place of two rows
abbrev pub spot_of : (heat mask : List ℤ) → ℕ → Spot
spot_of heat mask i = record { mask = number_at mask i; heat = number_at heat i }

-- what a place gains along each direction
abbrev pub gain_x : (factor : ℤ) → (heat mask : RowValues) → ℕ → ℤ
gain_x factor heat mask i =
    gain_between factor (spot_of heat.row mask.row i) (spot_of heat.row mask.row (i + 1))
    (spot_of heat.row mask.row (i + 2))

abbrev pub gain_y : (factor : ℤ) → (heat mask : RowValues) → ℕ → ℤ
gain_y factor heat mask i =
    gain_between factor (spot_of heat.below mask.below (i + 1))
    (spot_of heat.row mask.row (i + 1)) (spot_of heat.above mask.above (i + 1))

abbrev pub gain_z : (factor : ℤ) → (heat mask : RowValues) → ℕ → ℤ
gain_z factor heat mask i =
    gain_between factor (spot_of heat.under mask.under (i + 1))
    (spot_of heat.row mask.row (i + 1)) (spot_of heat.over mask.over (i + 1))

-- the next heat at a place, where it has 64 bits
abbrev pub heat_at : (factor : ℤ) → (heat mask : RowValues) → ℕ → Option ℤ
heat_at factor heat mask i =
    in_64_bits (number_at heat.row (i + 1)
    +ℤ (gain_x factor heat mask i +ℤ gain_y factor heat mask i +ℤ gain_z factor heat mask i))

-- the first so many numbers are a function's, which gives them all
abbrev pub AreGiven : (ℕ → Option ℤ) → List ℤ → ℕ → Type 0
AreGiven f ns n = (i : ℕ) → i < n → f i ≡ Some (number_at ns i)

-- a function gives no number at one of the first so many places
abbrev pub LacksIn : (ℕ → Option ℤ) → ℕ → Type 0
LacksIn f n = (i : ℕ) × (i < n) × (f i ≡ None)

-- a number in a direction that the grid has, and 0 in any other
abbrev pub if_has : Bool → ℤ → ℤ
if_has has by = if has then by else pos 0

-- the rows of a read beside this one along y, and along z; this one itself where the grid lacks the
-- direction
abbrev pub ShowsInY : (r : SeenRow) (k : ℕ) (y : ℤ) → List ℤ → Type 0
ShowsInY r k y ns = ShowsAlong r k (if_has (nat_lt 1 r.dims) y) (pos 0) ns

abbrev pub ShowsInZ : (r : SeenRow) (k : ℕ) (z : ℤ) → List ℤ → Type 0
ShowsInZ r k z ns = ShowsAlong r k (pos 0) (if_has (nat_lt 2 r.dims) z) ns

-- the row of a read, and the rows beside it
pub record ShowsRows (r : SeenRow) (k : ℕ) (v : RowValues) : Type 0 where
  pub row : ShowsAlong r k (pos 0) (pos 0) v.row
  pub below : ShowsInY r k (negsuc 0) v.below
  pub above : ShowsInY r k (pos 1) v.above
  pub under : ShowsInZ r k (negsuc 0) v.under
  pub over : ShowsInZ r k (pos 1) v.over
