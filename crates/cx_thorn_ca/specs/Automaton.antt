-- Wolfram's automaton: a row of cells, each 0 or 1.
use Rattle.std.specs.Prelude.{ℕ, ℤ, pos, negsuc, ◌+◌, ◌*◌, ◌%◌, [], ◌∷◌, Some, nat_eq, unsigned_abs, if◌then◌else◌, codes}
use Rattle.cx_grid.specs.declared.boxes.Point.{Point}
use Rattle.cx_plan.specs.declared.item.Region.{Region}
use Rattle.cx_plan.specs.declared.item.Region.TheVariants.{Everywhere, Interior, Boundary}
use Rattle.cx_plan.specs.declared.item.ItemKind.TheVariants.{Cell, Sum}
use Rattle.cx_rule.specs.Numbers.{mix, bit_of}
use Rattle.cx_rule.specs.Place.{global_index, param_of, is_place}
use Rattle.cx_rule.specs.Routine.{Rule}
use Rattle.cx_rule.specs.Seen.{Seen, value_of}
use Rattle.cx_rule.specs.Single.{want_of, zero_rule, read_rule}
use Rattle.cx_rule.specs.Specs.{most_points}
use Rattle.cx_rule.specs.declared.spec.Spec.{Spec}
use Rattle.cx_rule.specs.declared.spec.Want.{Want}

-- the first row: mixed from a seed, or, with a seed below 0, one cell that is 1
abbrev pub first_cell : ℤ → ℤ → ℕ → ℕ
first_cell (pos seed) start index = mix seed index % 2
first_cell (negsuc _) start index = if is_place start index then 1 else 0

abbrev pub ca_init_rule : Rule
ca_init_rule w at = Some (pos (first_cell (param_of at 0) (param_of at 1) (global_index at)) ∷ [])

-- 1 for a cell that is not 0
abbrev pub alive_of : ℤ → ℕ
alive_of cell = if nat_eq (unsigned_abs cell) 0 then 0 else 1

-- an offset along x and y, and one along x
abbrev pub off : ℤ → ℤ → Point
off x y = record { x = x; y = y; z = pos 0 }

abbrev pub beside : ℤ → Point
beside x = off x (pos 0)

-- the left, the middle and the right cell as a number from 0 to 7
abbrev pub pattern_of : Seen → ℕ
pattern_of w =
    4 * alive_of (value_of w 0 (beside (negsuc 0))) + 2 * alive_of (value_of w 0 (beside (pos 0)))
    + alive_of (value_of w 0 (beside (pos 1)))

-- the next cell is the bit of the rule's number that these three name
abbrev pub ca_step_rule : Rule
ca_step_rule w at = Some (pos (bit_of (param_of at 0) (pattern_of w)) ∷ [])

-- the row's edge
abbrev pub ca_zero_rule : Rule
ca_zero_rule = zero_rule

-- what the count adds at each place: the cell
abbrev pub ca_count_rule : Rule
ca_count_rule = read_rule

-- the row of cells, in a region
abbrev pub cells_in : Region → ℕ → Want
cells_in region reach = want_of (codes "ca::cell") region reach

-- what the four routines say of themselves
abbrev pub ca_init_spec : Spec
ca_init_spec =
    record {
      thorn = codes "ElemCA";
      name = codes "ca_init";
      kind = Cell;
      reads = [];
      writes = cells_in Everywhere 0 ∷ [];
      params = codes "ca::seed" ∷ codes "ca::start" ∷ [];
      cap = most_points;
    }

abbrev pub ca_step_spec : Spec
ca_step_spec =
    record {
      thorn = codes "ElemCA";
      name = codes "ca_step";
      kind = Cell;
      reads = cells_in Everywhere 1 ∷ [];
      writes = cells_in Interior 0 ∷ [];
      params = codes "ca::rule" ∷ [];
      cap = most_points;
    }

abbrev pub ca_zero_spec : Spec
ca_zero_spec =
    record {
      thorn = codes "ElemCA";
      name = codes "ca_zero";
      kind = Cell;
      reads = [];
      writes = cells_in Boundary 0 ∷ [];
      params = [];
      cap = most_points;
    }

abbrev pub ca_count_spec : Spec
ca_count_spec =
    record {
      thorn = codes "ElemCA";
      name = codes "ca_count";
      kind = Sum;
      reads = cells_in Everywhere 0 ∷ [];
      writes = want_of (codes "ca::live") Everywhere 0 ∷ [];
      params = [];
      cap = most_points;
    }
