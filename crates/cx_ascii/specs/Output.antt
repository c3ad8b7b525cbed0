-- The output file's text.
use Rattle.std.specs.Prelude.{ℕ, ℤ, ◌*◌, List, [], ◌∷◌, ◌++◌, codes, take, drop, unsigned_abs}
use Rattle.std.specs.List.{flat_map, range_with_len}
use Rattle.std.specs.Fmt.{decimal, signed_decimal}
use Rattle.cx_grid.specs.Boxes.{along, extent}
use Rattle.cx_grid.specs.Grid.{whole}
use Rattle.cx_grid.specs.declared.shapes.Shape.{Shape}

-- a value after the first of its row, behind a blank
abbrev pub after_blank : ℤ → List ℕ
after_blank value = 32 ∷ signed_decimal value

-- the values in decimal, one blank between
abbrev pub values_of : List ℤ → List ℕ
values_of [] = []
values_of (value ∷ values) = signed_decimal value ++ flat_map after_blank values

-- the number of points of a direction, behind a blank
abbrev pub size_of : Shape → ℕ → List ℕ
size_of s d = 32 ∷ decimal (unsigned_abs (along s.n d))

-- those of all directions of the grid
abbrev pub sizes_text : Shape → List ℕ
sizes_text s = flat_map (size_of s) (range_with_len 0 s.dims)

-- one row of so many values, by its number
abbrev pub row_in : ℕ → List ℤ → ℕ → List ℕ
row_in width level row = values_of (take width (drop (width * row) level)) ++ 10 ∷ []

-- so many rows of so many values
abbrev pub rows_in : ℕ → List ℤ → ℕ → List ℕ
rows_in width level count = flat_map (row_in width level) (range_with_len 0 count)

-- one row along x, by its number: y is the fastest
abbrev pub row_of : Shape → List ℤ → ℕ → List ℕ
row_of s level row = row_in (extent (whole s) 0) level row

-- all rows
abbrev pub rows_text : Shape → List ℤ → List ℕ
rows_text s level = flat_map (row_of s level)
    (range_with_len 0 (extent (whole s) 1 * extent (whole s) 2))

-- what a section and a line begin with: a variable's name and the iteration
abbrev pub head_text : List ℕ → ℕ → List ℕ
head_text name iteration = codes "# " ++ name ++ codes " iteration " ++ decimal iteration

-- the section of a grid variable: a head of its name, the iteration and as many sizes as the grid
-- has directions, a line for each row, and an empty line
abbrev pub section : List ℕ → ℕ → Shape → List ℤ → List ℕ
section name iteration s level =
    head_text name iteration ++ codes " size" ++ sizes_text s ++ 10 ∷ [] ++ rows_text s level ++ 10
    ∷ []

-- the line of a scalar: its name, the iteration and its value
abbrev pub line : List ℕ → ℕ → ℤ → List ℕ
line name iteration value =
    head_text name iteration ++ codes " value " ++ signed_decimal value ++ 10 ∷ []
