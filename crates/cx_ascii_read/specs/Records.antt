-- What the output file is made of: sections of grid variables and lines of scalars, one record
-- after another.
use Rattle.std.specs.Prelude.{ℕ, ◌<◌, ◌≤◌, ◌^◌, ◌≡◌, Bool, false, IsTrue, ℤ, pos, List, [], ◌∷◌, length, slice_index_or, Option}
use Rattle.std.specs.List.{list_all, AllByRecursion}
use Rattle.std.specs.Int.{w64}
use Rattle.std.specs.Int.RustNames.{FitsSigned}
use Rattle.cx_text.specs.Bytes.{is_printable}
use Rattle.cx_grid.specs.declared.shapes.Shape.{Shape}
use Rattle.cx_grid.specs.Boxes.{point_by, point_count}
use Rattle.cx_grid.specs.Grid.{whole}
use Rattle.cx_ascii.specs.Output.{section, line}
use Rattle.cx_ascii_read.specs.Spelling.{SpellsAll, ReadsAll}
use Rattle.cx_ascii_read.specs.declared.record.Record.{Record}

-- a grid with these numbers of points, by direction, and no ghost zones; a direction that it
-- doesn't have has one point
abbrev pub shape_of : List ℕ → Shape
shape_of size =
    record {
      dims = length size;
      n = point_by (λ d. pos (slice_index_or size d 1));
      ghost_ = point_by (λ d. pos 0);
      periodic = false ∷ false ∷ false ∷ [];
    }

-- one printable byte or more, so none of them is a blank
abbrev pub is_name : List ℕ → Bool
is_name [] = false
is_name (b ∷ bs) = list_all is_printable (b ∷ bs)

-- a number of points of a direction
abbrev pub IsSize : ℕ → Type 0
IsSize n = (1 ≤ n) × (n ≤ 16777216)

-- a grid variable's level, with one to three sizes and as many values as its grid has points, or a
-- scalar's one value, without a size
pub record IsRecord (r : Record) : Type 0 where
  pub name : IsTrue (is_name r.full)
  pub iteration : r.iteration < 2 ^ 64
  pub directions : length r.size ≤ 3
  pub sizes : AllByRecursion IsSize r.size
  pub count : length r.values ≡ point_count (whole (shape_of r.size))
  pub values : AllByRecursion (FitsSigned w64) r.values

-- the text of a record: without a size the line of its one value, else a section
abbrev pub text_of : List ℕ → ℕ → List ℕ → List ℤ → List ℕ
text_of name iteration [] values = line name iteration (slice_index_or values 0 (pos 0))
text_of name iteration (n ∷ ns) values = section name iteration (shape_of (n ∷ ns)) values

abbrev pub record_text : Record → List ℕ
record_text r = text_of r.full r.iteration r.size r.values

-- bytes are the texts of these records, one after another, with nothing between or behind
abbrev pub Spells : List ℕ → List Record → Type 0
Spells bytes rs = SpellsAll record_text IsRecord bytes rs

-- records that the bytes spell, or none where they spell none
abbrev pub ReadsAs : List ℕ → Option (List Record) → Type 0
ReadsAs bytes found = ReadsAll record_text IsRecord bytes found
