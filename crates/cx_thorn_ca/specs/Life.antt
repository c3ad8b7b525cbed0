-- Conway's automaton: a sheet of cells, each 0 or 1, by rules of births and survivals.
use Rattle.std.specs.Prelude.{ℕ, ℤ, pos, negsuc, ◌%◌, ◌++◌, List, [], ◌∷◌, Some, Bool, false, ◌||◌, ◌&&◌, sum_by, nat_eq, nat_lt, if◌then◌else◌, codes}
use Rattle.cx_grid.specs.declared.boxes.Point.{Point}
use Rattle.cx_plan.specs.declared.item.Region.{Region}
use Rattle.cx_plan.specs.declared.item.Region.TheVariants.{Everywhere, Interior, Boundary}
use Rattle.cx_plan.specs.declared.item.ItemKind.TheVariants.{Cell, Count}
use Rattle.cx_rule.specs.Numbers.{mix_from, bit_of}
use Rattle.cx_rule.specs.Place.{global_index, param_of, is_place}
use Rattle.cx_rule.specs.Routine.{Rule}
use Rattle.cx_rule.specs.Seen.{Seen, value_of}
use Rattle.cx_rule.specs.Single.{here, want_of, zero_rule, read_rule}
use Rattle.cx_rule.specs.Specs.{most_points}
use Rattle.cx_rule.specs.declared.spec.Spec.{Spec}
use Rattle.cx_rule.specs.declared.spec.Want.{Want}
use Rattle.cx_thorn_ca.specs.Automaton.{alive_of, off}

-- the cells of the glider, by x and y
abbrev pub glider : List (ℕ × ℕ)
glider = (1, 0) ∷ (2, 1) ∷ (0, 2) ∷ (1, 2) ∷ (2, 2) ∷ []

-- whether a point lies, by x and y, among some cells
abbrev pub is_among : List (ℕ × ℕ) → Point → Bool
is_among [] p = false
is_among (cell ∷ cells) p = (is_place p.x cell.0 && is_place p.y cell.1) || is_among cells p

-- the first sheet: the glider for pattern 0, else mixed from a seed
abbrev pub first_life : ℤ → ℤ → Point → ℕ → ℕ
first_life pattern seed p index =
    if is_place pattern 0 then (if is_among glider p then 1 else 0) else mix_from seed index % 2

abbrev pub life_init_rule : Rule
life_init_rule w at = Some
    (pos (first_life (param_of at 0) (param_of at 1) at.at (global_index at)) ∷ [])

-- the offsets of three cells in a row
abbrev pub row_of_three : ℤ → List Point
row_of_three y = off (negsuc 0) y ∷ off (pos 0) y ∷ off (pos 1) y ∷ []

-- the offsets of the neighbours: two in the row, and three on either side of it where the grid has
-- a second direction
abbrev pub neighbours : ℕ → List Point
neighbours dims =
    off (negsuc 0) (pos 0) ∷ off (pos 1) (pos 0)
    ∷ (if nat_lt 1 dims then row_of_three (negsuc 0) ++ row_of_three (pos 1) else [])

-- how many cells at these offsets are not 0
abbrev pub living : Seen → List Point → ℕ
living w offsets = sum_by (λ o. alive_of (value_of w 0 o)) offsets

-- the number whose bits tell the next cell: which counts of neighbours survive, or bear
abbrev pub counts_of : ℤ → ℤ → ℤ → ℤ
counts_of cell survive born = if nat_eq (alive_of cell) 1 then survive else born

-- a cell survives, and a cell is born, where the bit of its living neighbours' number is set
abbrev pub life_step_rule : Rule
life_step_rule w at =
    Some (pos (bit_of (counts_of (value_of w 0 here) (param_of at 0) (param_of at 1))
    (living w (neighbours w.dims))) ∷ [])

-- the sheet's edge
abbrev pub life_zero_rule : Rule
life_zero_rule = zero_rule

-- what the count looks at in each place: the cell
abbrev pub life_count_rule : Rule
life_count_rule = read_rule

-- the sheet of cells, in a region
abbrev pub sheet_in : Region → ℕ → Want
sheet_in region reach = want_of (codes "life::cell") region reach

-- what the four routines say of themselves
abbrev pub life_init_spec : Spec
life_init_spec =
    record {
      thorn = codes "Life2D";
      name = codes "life_init";
      kind = Cell;
      reads = [];
      writes = sheet_in Everywhere 0 ∷ [];
      params = codes "life::pattern" ∷ codes "life::seed" ∷ [];
      cap = most_points;
    }

abbrev pub life_step_spec : Spec
life_step_spec =
    record {
      thorn = codes "Life2D";
      name = codes "life_step";
      kind = Cell;
      reads = sheet_in Everywhere 1 ∷ [];
      writes = sheet_in Interior 0 ∷ [];
      params = codes "life::survive" ∷ codes "life::born" ∷ [];
      cap = most_points;
    }

abbrev pub life_zero_spec : Spec
life_zero_spec =
    record {
      thorn = codes "Life2D";
      name = codes "life_zero";
      kind = Cell;
      reads = [];
      writes = sheet_in Boundary 0 ∷ [];
      params = [];
      cap = most_points;
    }

abbrev pub life_count_spec : Spec
life_count_spec =
    record {
      thorn = codes "Life2D";
      name = codes "life_count";
      kind = Count;
      reads = sheet_in Everywhere 0 ∷ [];
      writes = want_of (codes "life::live") Everywhere 0 ∷ [];
      params = [];
      cap = most_points;
    }
