-- The grid, and how it is cut, by the values of the built-in parameters.
use Rattle.std.specs.Prelude.{ℕ, ◌==◌, nat_lt, min, max, Bool, false, ◌&&◌, ℤ, pos, int_le, unsigned_abs, List, [], ◌∷◌, ◌++◌, find, length, codes, Option, None, if◌then◌else◌}
use Rattle.std.specs.Int.{int_min, int_max}
use Rattle.std.specs.List.{filter_map, slice_split}
use Rattle.std.specs.Option.{option_map, unwrap_or}
use Rattle.cx_text.specs.Bytes.{is_blank}
use Rattle.cx_grid.specs.declared.shapes.Shape.{Shape}
use Rattle.cx_plan.specs.Lists.{first_of_each}
use Rattle.cx_plan.specs.declared.job.Cuts.{Cuts}
use Rattle.cx_cut.specs.Equal.{even}
use Rattle.cx_param.specs.declared.ranges.Value.{Value}
use Rattle.cx_param.specs.declared.ranges.Value.TheVariants.{Number, Flag, Text}
use Rattle.cx_bind.specs.declared.thorns.Thorn.{Thorn}
use Rattle.cx_bind.specs.Faults.{is_grid}
use Rattle.cx_values.specs.declared.values.Values.{Values}
use Rattle.cx_text.specs.Digits.{natural_in}
use Rattle.cx_values.specs.Assigned.{get}
pub use Rattle.cx_values.specs.Numbers.{within, number_at, number_within, natural_within, is_on, holds_at}
use Rattle.cx_job_values.specs.declared.direction.Direction.{Direction}
use Rattle.cx_job_values.specs.declared.direction.Direction.TheVariants.{X, Y, Z}

-- ---- the values of built-in parameters

abbrev pub text_of : Value → List ℕ
text_of (Text text) = text
text_of (Number n) = []
text_of (Flag b) = []

abbrev pub text_at : Values → List ℕ → List ℕ
text_at v full = unwrap_or (option_map text_of (get v full None)) []

-- ---- directions

abbrev pub letter : Direction → List ℕ
letter X = codes "x"
letter Y = codes "y"
letter Z = codes "z"

-- the natural number of a direction's parameter
abbrev pub natural_along : Values → ℕ → ℕ → List ℕ → Direction → ℕ
natural_along v low high begin d = natural_within v low high (begin ++ letter d)

abbrev pub has_direction : ℕ → Direction → Bool
has_direction dims X = nat_lt 0 dims
has_direction dims Y = nat_lt 1 dims
has_direction dims Z = nat_lt 2 dims

abbrev pub dim_in : Thorn → Option ℕ
dim_in t = option_map (λ g. g.dim) (find (λ g. is_grid g.gtype) t.interface.groups)

abbrev pub first_dim : List Thorn → ℕ
first_dim thorns = unwrap_or (first_of_each dim_in thorns) 1

-- The grid has as many directions as the groups of grid functions, which all have one number of
-- them, from 1 to 3; and one where there is no such group.
abbrev pub dims : List Thorn → ℕ
dims thorns = max 1 (min (first_dim thorns) 3)

-- ---- the grid

-- the most points of a direction
abbrev pub most_points : ℕ
most_points = 16777216

-- a number for all directions goes before that of one direction, from a least one on
abbrev pub for_all_or : ℤ → ℤ → ℤ → ℤ
for_all_or least all one = if int_le least all then all else one

abbrev pub number_along : Values → ℤ → List ℕ → List ℕ → Direction → ℤ
number_along v least all begin d =
    for_all_or least (number_at v all) (number_at v (begin ++ letter d))

abbrev pub points_along : ℕ → Values → Direction → ℤ
points_along dims v d =
    if has_direction dims d
    then within (pos 1) (pos 16777216)
    (for_all_or (pos 1) (number_at v (codes "driver::global_nsize"))
    (number_at v (codes "driver::global_n" ++ letter d)))
    else pos 1

abbrev pub ghosts_along : ℕ → Values → Direction → ℤ
ghosts_along dims v d =
    if has_direction dims d
    then within (pos 0) (pos 8)
    (for_all_or (pos 0) (number_at v (codes "driver::ghost_size"))
    (number_at v (codes "driver::ghost_size_" ++ letter d)))
    else pos 0

abbrev pub is_periodic_along : ℕ → Values → Direction → Bool
is_periodic_along dims v d =
    has_direction dims d && (holds_at v (codes "driver::periodic")
    && holds_at v (codes "driver::periodic_" ++ letter d))

abbrev pub shape_by : ℕ → Values → Shape
shape_by dims v =
    record {
      dims = dims;
      n = record {
        x = points_along dims v X;
        y = points_along dims v Y;
        z = points_along dims v Z;
      };
      ghost_ = record {
        x = ghosts_along dims v X;
        y = ghosts_along dims v Y;
        z = ghosts_along dims v Z;
      };
      periodic = is_periodic_along dims v X ∷ is_periodic_along dims v Y
          ∷ is_periodic_along dims v Z ∷ [];
    }

abbrev pub shape_of : List Thorn → Values → Shape
shape_of thorns v = shape_by (dims thorns) v

-- ---- the cut

-- the width that a word says
abbrev pub width_in : List ℕ → Option ℕ
width_in word = natural_in most_points word

-- the numbers of a text with blanks between
abbrev pub listed_widths : List ℕ → List ℕ
listed_widths text = filter_map width_in (slice_split is_blank text)

-- the listed widths, else where the text is empty an equal cut
abbrev pub widths_or : List ℕ → List ℕ → List ℕ
widths_or text equal = if length text == 0 then equal else listed_widths text

abbrev pub equal_widths : ℕ → Values → Direction → List ℕ
equal_widths dims v d = even (unsigned_abs (points_along dims v d))
    (natural_within v 1 512 (codes "driver::parts_" ++ letter d))

abbrev pub widths_along : ℕ → Values → Direction → List ℕ
widths_along dims v d =
    if has_direction dims d
    then widths_or (text_at v (codes "driver::widths_" ++ letter d)) (equal_widths dims v d)
    else 1 ∷ []

abbrev pub cuts_by : ℕ → Values → Cuts
cuts_by dims v = record {
  x = widths_along dims v X;
  y = widths_along dims v Y;
  z = widths_along dims v Z;
}

abbrev pub cuts_of : List Thorn → Values → Cuts
cuts_of thorns v = cuts_by (dims thorns) v
