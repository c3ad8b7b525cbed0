-- Steps of a field, and its sum over the whole grid.
use Rattle.std.specs.Prelude.{ℕ, ◌≡◌, ◌<◌, false, ℤ, pos, ◌≤ℤ◌, List, [], ◌∷◌, map, length}
use Rattle.cx_grid.specs.declared.shapes.Shape.{Shape}
use Rattle.cx_grid.specs.Boxes.{along}
use Rattle.cx_plan.specs.declared.variable.VarId.{VarId}
use Rattle.cx_plan.specs.declared.item.Region.{Region}
use Rattle.cx_plan.specs.declared.item.ItemKind.TheVariants.{Cell, Sum}
use Rattle.cx_plan.specs.declared.item.Touch.{Touch}
use Rattle.cx_plan.specs.declared.item.Item.{Item}
use Rattle.cx_plan.specs.Setups.{Setup}
use Rattle.cx_plan.specs.Lookups.{is_scalar, levels_of}
use Rattle.cx_rule.specs.Routine.{Rule, rule_at}
use Rattle.cx_model.specs.States.{State, level_of}
use Rattle.cx_model.specs.Turns.{reduced}

-- ---- items

-- a variable's current level, in a region and with a reach
abbrev pub touch_of : VarId → Region → ℕ → Touch
touch_of v region reach = record { var = v; level = 0; region = region; reach = reach }

-- a grid variable of a job that is stored
pub record IsField (setup : Setup) (v : VarId) : Type 0 where
  pub var : v.0 < length setup.vars
  pub stored : 0 < levels_of setup v
  pub grid : is_scalar setup v ≡ false

-- an item that computes a rule at points, from these reads, and writes one variable in a region
pub record Computes (rules : List Rule) (x : Item) (rule : Rule) (reads : List Touch) (v : VarId)
    (region : Region) : Type 0 where
  pub routine : rule_at rules x.routine ≡ rule
  pub kind : x.kind ≡ Cell
  pub read : x.reads ≡ reads
  pub written : x.writes ≡ touch_of v region 0 ∷ []

-- a grid with a ghost zone in each of its directions
abbrev pub HasGhosts : Shape → Type 0
HasGhosts s = (d : ℕ) → d < s.dims → pos 1 ≤ℤ along s.ghost_ d

-- ---- sums

-- the sum of a variable's current numbers over the whole grid, as the reduction gives it
abbrev pub sum_of : State → VarId → ℤ
sum_of state v = reduced Sum (level_of state v 0)

-- the same of what is measured of each number
abbrev pub measured : (ℤ → ℤ) → State → VarId → ℤ
measured measure state v = reduced Sum (map measure (level_of state v 0))
