-- One turn of an item over a zone of a box: all its points from the values before, all at once.
use Rattle.std.specs.Prelude.{ℕ, ◌+◌, Bool, true, false, not, ◌&&◌, ◌||◌, ℤ, pos, int_le, List, [], ◌∷◌, map, Option, Some, None, is_some, if◌then◌else◌, slice_index_or}
use Rattle.std.specs.List.{list_all, flat_map}
use Rattle.cx_text.specs.declared.ctype.CType.{CType}
use Rattle.cx_grid.specs.declared.boxes.Point.{Point}
use Rattle.cx_grid.specs.declared.boxes.Box3.{Box3}
use Rattle.cx_grid.specs.declared.shapes.Shape.{Shape}
use Rattle.cx_grid.specs.Boxes.{point_by, shifted, points_in, numbers_in}
use Rattle.cx_grid.specs.Grid.{is_boundary, source, wrap}
use Rattle.cx_grid.specs.Windows.{reach_box}
use Rattle.cx_plan.specs.declared.variable.VarId.{VarId}
use Rattle.cx_plan.specs.declared.item.Region.{Region}
use Rattle.cx_plan.specs.declared.item.Region.TheVariants.{Interior, Boundary, Everywhere}
use Rattle.cx_plan.specs.declared.item.Touch.{Touch}
use Rattle.cx_plan.specs.declared.item.Item.{Item}
use Rattle.cx_plan.specs.Setups.{Setup}
use Rattle.cx_plan.specs.Types as types
use Rattle.cx_plan.specs.Lookups.{variable}
use Rattle.cx_rule.specs.declared.place.Place.{Place}
use Rattle.cx_rule.specs.Seen.{Seen}
use Rattle.cx_rule.specs.Routine.{Rule}
use Rattle.cx_rule.specs.States.{State, with_level, with_scalar}

-- ---- what a rule sees

-- the number of a variable's level at each point; of a scalar, the same at each
abbrev pub Values : Type 0
Values = VarId → ℕ → Point → ℤ

-- the values that one read hands over at a point
abbrev pub values_around : Setup → Values → Point → Touch → List ℤ
values_around setup values p r =
    numbers_in (reach_box setup.shape.dims r.reach) (λ o. values r.var r.level (shifted p o))

abbrev pub reach_of : Touch → ℕ
reach_of r = r.reach

abbrev pub seen_at : Setup → Item → Values → Point → Seen
seen_at setup x values p =
    record {
      dims = setup.shape.dims;
      reaches = map reach_of x.reads;
      values = flat_map (values_around setup values p) x.reads;
    }

-- the place of a point of the grid, which a point beside the grid names by wrap
abbrev pub place_at : Setup → Item → ℕ → Point → Place
place_at setup x iteration p =
    record {
      at = wrap setup.shape p;
      shape = setup.shape;
      iteration = iteration;
      params = x.params;
    }

-- ---- what a rule gives

-- whether a variable of this type can have the number
abbrev pub fits : CType → ℤ → Bool
fits t n = int_le (types.least t) n && int_le n (types.greatest t)

-- whether there is a number for each write, each in the type of its variable
abbrev pub all_fit : Setup → List Touch → List ℤ → Bool
all_fit setup [] ns = true
all_fit setup (w ∷ ws) [] = false
all_fit setup (w ∷ ws) (n ∷ ns) = fits (variable setup w.var).ctype n && all_fit setup ws ns

abbrev pub if_fit : Setup → List Touch → Option (List ℤ) → Option (List ℤ)
if_fit setup ws None = None
if_fit setup ws (Some ns) = if all_fit setup ws ns then Some ns else None

-- the numbers of a rule for a point whose window is taken at another one, or none
abbrev pub numbers_by : Setup → Rule → Item → Values → ℕ → Point → Point → Option (List ℤ)
numbers_by setup rule x values iteration from p =
    if_fit setup x.writes (rule (seen_at setup x values from) (place_at setup x iteration p))

-- ---- sweeps

-- whether a point lies in a region
abbrev pub in_region : Shape → Region → Point → Bool
in_region s Interior p = not (is_boundary s p)
in_region s Boundary p = is_boundary s p
in_region s Everywhere p = true

-- where the window of a point is taken
abbrev pub window_point : Shape → Region → Point → Point
window_point s Interior p = p
window_point s Boundary p = source s p
window_point s Everywhere p = p

-- the k-th of some numbers, or the old one
abbrev pub number_or : Option (List ℤ) → ℕ → ℤ → ℤ
number_or None k old = old
number_or (Some ns) k old = slice_index_or ns k old

-- a level over a box: the k-th of each point's numbers in a zone, and the old numbers elsewhere
abbrev pub level_after : Box3 → (Point → Bool) → (Point → Option (List ℤ)) → ℕ → (Point → ℤ)
    → List ℤ
level_after box zone numbers k old =
    numbers_in box (λ p. if zone p then number_or (numbers p) k (old p) else old p)

-- the state with each written level replaced, from the k-th write on
abbrev pub levels_after : Box3 → Values → (Point → Bool) → (Point → Option (List ℤ)) → ℕ
    → List Touch → State → State
levels_after box values zone numbers k [] state = state
levels_after box values zone numbers k (w ∷ ws) state =
    levels_after box values zone numbers (k + 1) ws
    (with_level state w.var w.level (level_after box zone numbers k (values w.var w.level)))

-- a sweep of a zone of a box: none where one point of it has no numbers
abbrev pub sweep : Box3 → Values → (Point → Bool) → (Point → Option (List ℤ)) → List Touch → State
    → Option State
sweep box values zone numbers writes state =
    if list_all (λ p. not (zone p) || is_some (numbers p)) (points_in box)
    then Some (levels_after box values zone numbers 0 writes state)
    else None

-- ---- scalars

-- the state with other scalars
abbrev pub scalars_after : List Touch → List ℤ → State → State
scalars_after [] ns state = state
scalars_after (w ∷ ws) [] state = state
scalars_after (w ∷ ws) (n ∷ ns) state = scalars_after ws ns (with_scalar state w.var n)

abbrev pub scalar_turn : Item → State → Option (List ℤ) → Option State
scalar_turn x state None = None
scalar_turn x state (Some ns) = Some (scalars_after x.writes ns state)

-- a Scalar item is one application of its rule, at the first point
abbrev pub first_point : Point
first_point = point_by (λ d. pos 0)
