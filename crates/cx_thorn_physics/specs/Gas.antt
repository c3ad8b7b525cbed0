-- The HPP gas: particles on a sheet that move on by one point a step, and turn where two meet.
use Rattle.std.specs.Prelude.{ℕ, ℤ, pos, negsuc, ◌+ℤ◌, ◌-ℤ◌, ◌*ℤ◌, ◌+◌, ◌*◌, ◌%◌, int_lt, Bool, ◌&&◌, nat_eq, nat_lt, unsigned_abs, List, [], ◌∷◌, Some, if◌then◌else◌, codes}
use Rattle.cx_grid.specs.declared.boxes.Point.{Point}
use Rattle.cx_plan.specs.declared.item.Region.{Region}
use Rattle.cx_plan.specs.declared.item.Region.TheVariants.{Everywhere, Interior, Boundary}
use Rattle.cx_plan.specs.declared.item.ItemKind.TheVariants.{Cell, Sum}
use Rattle.cx_rule.specs.Numbers.{mix_from, bit_of}
use Rattle.cx_rule.specs.Place.{global_index, param_of}
use Rattle.cx_rule.specs.Routine.{Rule}
use Rattle.cx_rule.specs.Seen.{Seen, value_of}
use Rattle.cx_rule.specs.Single.{here, want_of, zero_rule, read_rule}
use Rattle.cx_rule.specs.Specs.{most_points}
use Rattle.cx_rule.specs.declared.place.Place.{Place}
use Rattle.cx_rule.specs.declared.spec.Spec.{Spec}
use Rattle.cx_rule.specs.declared.spec.Want.{Want}
use Rattle.cx_thorn_physics.specs.Offsets.{step}

-- ---- particles

-- 1 where a cell has a particle that goes this way, else 0: the lowest four bits are those of east,
-- along x, north, along y, west and south
abbrev pub east : ℤ → ℕ
east cell = bit_of cell 0

abbrev pub north : ℤ → ℕ
north cell = bit_of cell 1

abbrev pub west : ℤ → ℕ
west cell = bit_of cell 2

abbrev pub south : ℤ → ℕ
south cell = bit_of cell 3

-- the cell with these particles
abbrev pub cell_of : (e n w s : ℕ) → ℕ
cell_of e n w s = e + 2 * n + 4 * w + 8 * s

-- two particles that meet head-on, alone, both turn by a quarter
abbrev pub turned : ℕ → ℕ
turned cell = if nat_eq cell 5 then 10 else if nat_eq cell 10 then 5 else cell

-- the offset of a neighbour along y; on a grid without that direction particles stay in their row
abbrev pub beside_y : Seen → ℤ → Point
beside_y w y = step 1 (if nat_lt 1 w.dims then y else pos 0)

-- the particles that come to a point, each from the neighbour behind it
abbrev pub arriving : Seen → ℕ
arriving w =
    cell_of (east (value_of w 0 (step 0 (negsuc 0)))) (north (value_of w 0 (beside_y w (negsuc 0))))
    (west (value_of w 0 (step 0 (pos 1)))) (south (value_of w 0 (beside_y w (pos 1))))

-- particles move on, and turn where two meet
abbrev pub gas_step_rule : Rule
gas_step_rule w at = Some (pos (turned (arriving w)) ∷ [])

-- ---- what is measured

-- how many particles a cell has, and their momenta along x and y
abbrev pub number_of : ℤ → ℤ
number_of cell = pos (east cell + north cell + west cell + south cell)

abbrev pub momentum_x_of : ℤ → ℤ
momentum_x_of cell = pos (east cell) -ℤ pos (west cell)

abbrev pub momentum_y_of : ℤ → ℤ
momentum_y_of cell = pos (north cell) -ℤ pos (south cell)

abbrev pub gas_measure_rule : Rule
gas_measure_rule w at =
    Some (number_of (value_of w 0 here) ∷ momentum_x_of (value_of w 0 here)
    ∷ momentum_y_of (value_of w 0 here) ∷ [])

-- ---- the start

-- whether a coordinate lies within so many points around the middle of so many
abbrev pub in_middle : (n size c : ℤ) → Bool
in_middle n size c = int_lt (pos (unsigned_abs (pos 2 *ℤ c +ℤ pos 1 -ℤ n))) size

-- whether a point lies, by x and y, in a block of this size in the middle of the grid
abbrev pub in_block : Place → ℤ → Bool
in_block at size = in_middle at.shape.n.x size at.at.x && in_middle at.shape.n.y size at.at.y

-- a block of cells that are mixed from a seed, by the parameters size and seed; all others have no
-- particles
abbrev pub gas_init_rule : Rule
gas_init_rule w at =
    Some (pos (if in_block at (param_of at 0) then mix_from (param_of at 1) (global_index at) % 16
    else 0) ∷ [])

-- ---- the edge and the sums

-- particles that go into the boundary leave the sheet
abbrev pub gas_zero_rule : Rule
gas_zero_rule = zero_rule

-- what each of the three sums adds at each point: the number there
abbrev pub gas_sum_rule : Rule
gas_sum_rule = read_rule

-- ---- what the seven routines say of themselves

-- the cells, in a region
abbrev pub cells_in : Region → ℕ → Want
cells_in region reach = want_of (codes "gas::cell") region reach

-- a variable that is measured everywhere, or a sum
abbrev pub told : List ℕ → Want
told name = want_of name Everywhere 0

abbrev pub gas_init_spec : Spec
gas_init_spec =
    record {
      thorn = codes "LatticeGas";
      name = codes "gas_init";
      kind = Cell;
      reads = [];
      writes = cells_in Everywhere 0 ∷ [];
      params = codes "gas::size" ∷ codes "gas::seed" ∷ [];
      cap = most_points;
    }

abbrev pub gas_step_spec : Spec
gas_step_spec =
    record {
      thorn = codes "LatticeGas";
      name = codes "gas_step";
      kind = Cell;
      reads = cells_in Everywhere 1 ∷ [];
      writes = cells_in Interior 0 ∷ [];
      params = [];
      cap = most_points;
    }

abbrev pub gas_zero_spec : Spec
gas_zero_spec =
    record {
      thorn = codes "LatticeGas";
      name = codes "gas_zero";
      kind = Cell;
      reads = [];
      writes = cells_in Boundary 0 ∷ [];
      params = [];
      cap = most_points;
    }

abbrev pub gas_measure_spec : Spec
gas_measure_spec =
    record {
      thorn = codes "LatticeGas";
      name = codes "gas_measure";
      kind = Cell;
      reads = cells_in Everywhere 0 ∷ [];
      writes = told (codes "gas::number") ∷ told (codes "gas::momentum_x")
          ∷ told (codes "gas::momentum_y") ∷ [];
      params = [];
      cap = most_points;
    }

-- a sum of the gas
abbrev pub gas_sum_spec : (name from to : List ℕ) → Spec
gas_sum_spec name from to =
    record {
      thorn = codes "LatticeGas";
      name = name;
      kind = Sum;
      reads = told from ∷ [];
      writes = told to ∷ [];
      params = [];
      cap = most_points;
    }

abbrev pub gas_particles_spec : Spec
gas_particles_spec = gas_sum_spec (codes "gas_particles") (codes "gas::number")
    (codes "gas::particles")

abbrev pub gas_total_x_spec : Spec
gas_total_x_spec = gas_sum_spec (codes "gas_total_x") (codes "gas::momentum_x")
    (codes "gas::total_x")

abbrev pub gas_total_y_spec : Spec
gas_total_y_spec = gas_sum_spec (codes "gas_total_y") (codes "gas::momentum_y")
    (codes "gas::total_y")
