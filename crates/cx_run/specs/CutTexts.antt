-- The lines that tell how the grid of a job is cut.
use Rattle.std.specs.Prelude.{ℕ, pos, unsigned_abs, List, ◌∷◌, ◌++◌, codes, Option, Some, None}
use Rattle.std.specs.List.{flat_map, range_with_len}
use Rattle.std.specs.Fmt.{decimal}
use Rattle.cx_grid.specs.declared.boxes.Point.{Point}
use Rattle.cx_grid.specs.declared.boxes.Box3.{Box3}
use Rattle.cx_grid.specs.declared.shapes.Side.{Side}
use Rattle.cx_grid.specs.declared.shapes.Side.TheVariants.{Low, High}
use Rattle.cx_grid.specs.Boxes.{along, point_by, extent}
use Rattle.cx_cut.specs.Cuts.{Parts, widths, part_count, owned, neighbour}
use Rattle.cx_job.specs.Keys.{letter, line_feed}

-- a number after a blank
abbrev pub number_text : ℕ → List ℕ
number_text n = 32 ∷ decimal n

-- ---- the widths of the parts, direction by direction

abbrev pub cut_line : Parts → ℕ → List ℕ
cut_line c d = codes "cut " ++ letter d ++ flat_map number_text (widths c d) ++ line_feed

abbrev pub cut_lines : Parts → List ℕ
cut_lines c = flat_map (cut_line c) (range_with_len 0 c.shape.dims)

-- ---- the parts

-- how many points a box has in each direction
abbrev pub size_of : Box3 → Point
size_of b = point_by (λ d. pos (extent b d))

-- the numbers of a point, one for each direction
abbrev pub coordinate_text : Point → ℕ → List ℕ
coordinate_text p d = number_text (unsigned_abs (along p d))

abbrev pub point_text : ℕ → Point → List ℕ
point_text dims p = flat_map (coordinate_text p) (range_with_len 0 dims)

-- a part's neighbours at a side, one for each direction; a dash where there is none
abbrev pub neighbour_text : Option ℕ → List ℕ
neighbour_text (Some k) = number_text k
neighbour_text None = codes " -"

abbrev pub side_text : Parts → ℕ → Side → List ℕ
side_text c k side = flat_map (λ d. neighbour_text (neighbour c k d side))
    (range_with_len 0 c.shape.dims)

-- a part's number, where its own points begin, how many they are, and its neighbours
abbrev pub place_text : Parts → ℕ → List ℕ
place_text c k =
    codes "part" ++ number_text k ++ codes " from" ++ point_text c.shape.dims (owned c k).low
    ++ codes " size" ++ point_text c.shape.dims (size_of (owned c k))

abbrev pub sides_text : Parts → ℕ → List ℕ
sides_text c k = codes " low" ++ side_text c k Low ++ codes " high" ++ side_text c k High
    ++ line_feed

abbrev pub part_line : Parts → ℕ → List ℕ
part_line c k = place_text c k ++ sides_text c k

abbrev pub parts_text : Parts → List ℕ
parts_text c = flat_map (part_line c) (range_with_len 0 (part_count c))
