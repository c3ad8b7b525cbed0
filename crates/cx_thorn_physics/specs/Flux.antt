-- Heat in flux form: what leaves a point reaches its neighbour, to the last unit.
use Rattle.std.specs.Prelude.{ℕ, ℤ, pos, negsuc, ◌+ℤ◌, ◌-ℤ◌, ◌*ℤ◌, ◌%◌, ◌+◌, int_div, Bool, ◌&&◌, not, nat_eq, nat_lt, unsigned_abs, [], ◌∷◌, Some, if◌then◌else◌, codes}
use Rattle.cx_grid.specs.declared.boxes.Point.{Point}
use Rattle.cx_grid.specs.Grid.{is_boundary}
use Rattle.cx_plan.specs.declared.item.Region.{Region}
use Rattle.cx_plan.specs.declared.item.Region.TheVariants.{Everywhere, Interior, Boundary}
use Rattle.cx_plan.specs.declared.item.ItemKind.TheVariants.{Cell, Sum}
use Rattle.cx_rule.specs.Numbers.{mix_from}
use Rattle.cx_rule.specs.Place.{global_index, param_of, is_place}
use Rattle.cx_rule.specs.Routine.{Rule}
use Rattle.cx_rule.specs.Seen.{Seen, value_of}
use Rattle.cx_rule.specs.Single.{here, one_number, want_of, zero_rule, read_rule}
use Rattle.cx_rule.specs.Specs.{most_points}
use Rattle.cx_rule.specs.declared.place.Place.{Place}
use Rattle.cx_rule.specs.declared.spec.Spec.{Spec}
use Rattle.cx_rule.specs.declared.spec.Want.{Want}
use Rattle.cx_thorn_physics.specs.Exact.{in_64_bits}
use Rattle.cx_thorn_physics.specs.Offsets.{step}
use Rattle.cx_thorn_physics.specs.declared.flow.Spot.{Spot}

-- ---- flows

-- what goes from a point to a neighbour: the factor's 256ths of how much hotter it is, rounded
-- toward 0
abbrev pub flow : (factor from to : ℤ) → ℤ
flow factor from to = int_div (factor *ℤ (from -ℤ to)) (pos 256)

-- whether a mask lets heat pass
abbrev pub is_passable : ℤ → Bool
is_passable mask = not (nat_eq (unsigned_abs mask) 0)

-- the flow from one point to another, where both let heat pass, and none elsewhere
abbrev pub flow_between : (factor : ℤ) → (from to : Spot) → ℤ
flow_between factor from to =
    if is_passable from.mask && is_passable to.mask then flow factor from.heat to.heat else pos 0

-- what a window shows at an offset: the heat is the first read, and the mask the second
abbrev pub spot_at : Seen → Point → Spot
spot_at w o = record { mask = value_of w 1 o; heat = value_of w 0 o }

-- what comes in from one neighbour less what goes out to the other
abbrev pub gain_between : (factor : ℤ) → (down point up : Spot) → ℤ
gain_between factor down point up = flow_between factor down point
    -ℤ flow_between factor point up

abbrev pub gain : Seen → (factor : ℤ) → (d : ℕ) → ℤ
gain w factor d =
    gain_between factor (spot_at w (step d (negsuc 0))) (spot_at w here)
    (spot_at w (step d (pos 1)))

-- nothing in a direction that the grid does not have
abbrev pub gain_if : Seen → (factor : ℤ) → (d : ℕ) → ℤ
gain_if w factor d = if nat_lt d w.dims then gain w factor d else pos 0

-- the sum over the grid's directions
abbrev pub gains : Seen → (factor : ℤ) → ℤ
gains w factor = gain_if w factor 0 +ℤ gain_if w factor 1 +ℤ gain_if w factor 2

-- the heat and what it gains
abbrev pub heatflux_step_rule : Rule
heatflux_step_rule w at =
    one_number (in_64_bits (value_of w 0 here +ℤ gains w (param_of at 0)))

-- ---- the start

-- the amount at one place, and 0 elsewhere
abbrev pub point_start : ℤ → ℤ → ℕ → ℤ
point_start amount start index = if is_place start index then amount else pos 0

-- mixed from a seed, from 0 to the amount, which may be 0; and 0 for an amount below 0
abbrev pub random_start : ℤ → ℤ → ℕ → ℤ
random_start (pos amount) seed index = pos (mix_from seed index % (amount + 1))
random_start (negsuc _) seed index = pos 0

-- by the pattern's number: 0 one point, every other one random
abbrev pub start_number : ℤ → ℤ → ℤ → ℤ → ℕ → ℤ
start_number pattern amount start seed index =
    if is_place pattern 0 then point_start amount start index
    else random_start amount seed index

-- by the parameters pattern, amount, start and seed
abbrev pub start_at : Place → ℤ
start_at at = start_number (param_of at 0) (param_of at 1) (param_of at 2) (param_of at 3)
    (global_index at)

-- the heat and the mask: 0 in the boundary, and the start and 1 elsewhere
abbrev pub heatflux_init_rule : Rule
heatflux_init_rule w at =
    if is_boundary at.shape at.at then Some (pos 0 ∷ pos 0 ∷ [])
    else Some (start_at at ∷ pos 1 ∷ [])

-- ---- the edge and the sum

-- the boundary holds no heat
abbrev pub heatflux_zero_rule : Rule
heatflux_zero_rule = zero_rule

-- what the sum adds at each point: the heat
abbrev pub heatflux_sum_rule : Rule
heatflux_sum_rule = read_rule

-- ---- what the four routines say of themselves

-- the heat and the mask, in a region
abbrev pub heat_in : Region → ℕ → Want
heat_in region reach = want_of (codes "heatflux::u") region reach

abbrev pub mask_in : Region → ℕ → Want
mask_in region reach = want_of (codes "heatflux::mask") region reach

abbrev pub heatflux_init_spec : Spec
heatflux_init_spec =
    record {
      thorn = codes "HeatFlux";
      name = codes "heatflux_init";
      kind = Cell;
      reads = [];
      writes = heat_in Everywhere 0 ∷ mask_in Everywhere 0 ∷ [];
      params = codes "heatflux::pattern" ∷ codes "heatflux::amount" ∷ codes "heatflux::start"
          ∷ codes "heatflux::seed" ∷ [];
      cap = most_points;
    }

abbrev pub heatflux_step_spec : Spec
heatflux_step_spec =
    record {
      thorn = codes "HeatFlux";
      name = codes "heatflux_step";
      kind = Cell;
      reads = heat_in Everywhere 1 ∷ mask_in Everywhere 1 ∷ [];
      writes = heat_in Interior 0 ∷ [];
      params = codes "heatflux::factor" ∷ [];
      cap = most_points;
    }

abbrev pub heatflux_zero_spec : Spec
heatflux_zero_spec =
    record {
      thorn = codes "HeatFlux";
      name = codes "heatflux_zero";
      kind = Cell;
      reads = [];
      writes = heat_in Boundary 0 ∷ [];
      params = [];
      cap = most_points;
    }

abbrev pub heatflux_sum_spec : Spec
heatflux_sum_spec =
    record {
      thorn = codes "HeatFlux";
      name = codes "heatflux_sum";
      kind = Sum;
      reads = heat_in Everywhere 0 ∷ [];
      writes = want_of (codes "heatflux::total") Everywhere 0 ∷ [];
      params = [];
      cap = most_points;
    }
