-- What a part holds, and what one operation does with it alone.
use Rattle.std.specs.Prelude.{ℕ, suc, ◌<◌, ◌≡◌, Bool, true, ◌&&◌, ℤ, pos, List, [], ◌∷◌, map, length, Option, Some, if◌then◌else◌, slice_index_or}
use Rattle.std.specs.List.{flat_map, range_with_len}
use Rattle.cx_grid.specs.declared.boxes.Point.{Point}
use Rattle.cx_grid.specs.declared.boxes.Box3.{Box3}
use Rattle.cx_grid.specs.Boxes.{point_count, index_in, numbers_in, has_point}
use Rattle.cx_plan.specs.declared.variable.VarId.{VarId}
use Rattle.cx_plan.specs.declared.item.Region.{Region}
use Rattle.cx_plan.specs.declared.item.Region.TheVariants.{Interior, Boundary, Everywhere}
use Rattle.cx_plan.specs.declared.item.ItemKind.{ItemKind}
use Rattle.cx_plan.specs.declared.item.ItemKind.TheVariants.{Cell, Scalar, Sum, Least, Greatest, Count}
use Rattle.cx_plan.specs.declared.item.Item.{Item}
use Rattle.cx_plan.specs.declared.item.Touch.{Touch}
use Rattle.cx_plan.specs.Setups.{Setup}
use Rattle.cx_plan.specs.Lookups.{is_scalar, levels_of}
use Rattle.cx_plan.specs.Regions.{region_of}
use Rattle.cx_rule.specs.Routine.{Rule}
use Rattle.cx_rule.specs.States.{State, level_of, scalar_of}
use Rattle.cx_rule.specs.Sweeps.{Values, if_fit, in_region, sweep, scalar_turn, first_point}
use Rattle.cx_model.specs.Turns.{numbers_at, swept_at, reduced}
use Rattle.cx_cut.specs.Cuts.{Parts, owned, local}
use Rattle.cx_flat.specs.Flats.{Control}

-- how many operations it has done, what decides the way, and per variable its levels, each with one
-- number for each local point; a scalar has one level of one number
pub record Held : Type 0 where
  pub count : ℕ
  pub control : Control
  pub numbers : State

-- each variable has its levels, a grid level one number for each local point and a scalar's one
-- number
pub record IsHeld (setup : Setup) (local : Box3) (numbers : State) : Type 0 where
  pub vars : length numbers ≡ length setup.vars
  pub levels : (v : VarId) → v.0 < length setup.vars
      → length (slice_index_or numbers v.0 []) ≡ levels_of setup v
  pub sizes : (v : VarId) (level : ℕ) → v.0 < length setup.vars → level < levels_of setup v
      → length (level_of numbers v level) ≡ (if is_scalar setup v then 1 else point_count local)

-- ---- numbers

-- the number at a point of a box, of a list over that box
abbrev pub number_at : Box3 → List ℤ → Point → ℤ
number_at b level p = slice_index_or level (index_in b p) (pos 0)

-- the values of a part over its local box
abbrev pub local_values : Setup → Box3 → State → Values
local_values setup b numbers v level p =
    if is_scalar setup v then scalar_of numbers v else number_at b (level_of numbers v level) p

-- the current levels of several variables in a box, one variable after another
abbrev pub numbers_of : Values → Box3 → List VarId → List ℤ
numbers_of values b vars = flat_map (λ v. numbers_in b (values v 0)) vars

-- the first level that is read, in a box
abbrev pub first_numbers : Values → Box3 → List Touch → List ℤ
first_numbers values b [] = []
first_numbers values b (r ∷ rs) = numbers_in b (values r.var r.level)

-- a state over a box, with these values; its scalars stay
abbrev pub state_in : Setup → Values → Box3 → ℕ → State → State
state_in setup values b v [] = []
state_in setup values b v (levels ∷ more) =
    (if is_scalar setup (record { 0 = v })
    then levels
    else map (λ level. numbers_in b (values (record { 0 = v }) level))
    (range_with_len 0 (length levels)))
    ∷ state_in setup values b (suc v) more

-- ---- sweeps

-- the points that a part sweeps: of the interior its owned ones, else all local ones of the region
abbrev pub in_zone : Setup → Box3 → Region → Point → Bool
in_zone setup owned Interior p = has_point owned p && in_region setup.shape Interior p
in_zone setup owned Boundary p = in_region setup.shape Boundary p
in_zone setup owned Everywhere p = true

abbrev pub part_sweep : Setup → List Rule → Parts → ℕ → Item → State → ℕ → Option State
part_sweep setup rules cut k x numbers iteration =
    sweep (local cut k) (local_values setup (local cut k) numbers)
    (in_zone setup (owned cut k) (region_of x.writes))
    (swept_at setup rules x (local_values setup (local cut k) numbers) iteration) x.writes numbers

-- the box of the first point alone
abbrev pub first_box : Box3
first_box = record { low = first_point; high = first_point }

-- the rule of a Scalar item, which reads scalars alone
abbrev pub part_rule : Setup → List Rule → Item → State → ℕ → Option State
part_rule setup rules x numbers iteration =
    scalar_turn x numbers
    (numbers_at setup rules x (local_values setup first_box numbers)
    iteration first_point first_point)

-- ---- reductions

-- a part's number, over its owned points
abbrev pub partial : Values → Box3 → Item → ℤ
partial values owned x = reduced x.kind (first_numbers values owned x.reads)

-- the number of all parts, from theirs
abbrev pub joined : ItemKind → List ℤ → ℤ
joined Sum ns = reduced Sum ns
joined Least ns = reduced Least ns
joined Greatest ns = reduced Greatest ns
joined Count ns = reduced Sum ns
joined Cell ns = pos 0
joined Scalar ns = pos 0

-- the state with a reduction's number in its scalar; none where it leaves the scalar's type
abbrev pub join_turn : Setup → Item → State → ℤ → Option State
join_turn setup x state number = scalar_turn x state (if_fit setup x.writes (Some (number ∷ [])))
