-- One turn of an item in an undivided run: all its points from the values before, all at once. What
-- a rule sees, what it gives and how a zone of a box is swept are those over any box.
use Rattle.std.specs.Prelude.{ℕ, ℤ, pos, ◌+ℤ◌, List, [], ◌∷◌, filter, length, Option, Some, if◌then◌else◌}
use Rattle.std.specs.List.{reduce}
use Rattle.std.specs.Option.{unwrap_or}
use Rattle.std.specs.Int.{int_min, int_max}
use Rattle.cx_grid.specs.declared.boxes.Point.{Point}
use Rattle.cx_grid.specs.Grid.{whole, at}
use Rattle.cx_plan.specs.declared.item.Touch.{Touch}
use Rattle.cx_plan.specs.declared.item.ItemKind.{ItemKind}
use Rattle.cx_plan.specs.declared.item.ItemKind.TheVariants.{Cell, Scalar, Sum, Least, Greatest, Count}
use Rattle.cx_plan.specs.declared.item.Item.{Item}
use Rattle.cx_plan.specs.Setups.{Setup}
use Rattle.cx_plan.specs.Lookups.{is_scalar}
use Rattle.cx_plan.specs.Regions.{region_of}
use Rattle.cx_rule.specs.Routine.{Rule, rule_at}
use Rattle.cx_rule.specs.States.{State, level_of, scalar_of}
use Rattle.cx_rule.specs.Sweeps.{numbers_by}
use Rattle.cx_text.specs.Numbers.{is_not_zero}
pub use Rattle.cx_rule.specs.Sweeps.{Values, values_around, reach_of, seen_at, place_at, fits, all_fit, if_fit, in_region, window_point, number_or, level_after, levels_after, sweep, scalars_after, scalar_turn, first_point}

-- ---- numbers of an undivided state

-- the values of an undivided state
abbrev pub values_of : Setup → State → Values
values_of setup state v level p = if is_scalar setup v then scalar_of state v
    else at setup.shape (level_of state v level) p

-- the numbers for a point whose window is taken at another one, or none
abbrev pub numbers_at : Setup → List Rule → Item → Values → ℕ → Point → Point → Option (List ℤ)
numbers_at setup rules x values iteration from p =
    numbers_by setup (rule_at rules x.routine) x values iteration from p

-- the numbers that a Cell item gives at a point
abbrev pub swept_at : Setup → List Rule → Item → Values → ℕ → Point → Option (List ℤ)
swept_at setup rules x values iteration p =
    numbers_at setup rules x values iteration (window_point setup.shape (region_of x.writes) p) p

-- ---- turns

-- a Cell item: every point of the region, all windows from the state before
abbrev pub cell_turn : Setup → List Rule → Item → State → ℕ → Option State
cell_turn setup rules x state iteration =
    sweep (whole setup.shape) (values_of setup state) (in_region setup.shape (region_of x.writes))
    (swept_at setup rules x (values_of setup state) iteration) x.writes state

-- the number of a reduction over a whole list, which has one point at least
abbrev pub reduced : ItemKind → List ℤ → ℤ
reduced Sum ns = unwrap_or (reduce (λ a b. a +ℤ b) ns) (pos 0)
reduced Least ns = unwrap_or (reduce int_min ns) (pos 0)
reduced Greatest ns = unwrap_or (reduce int_max ns) (pos 0)
reduced Count ns = pos (length (filter is_not_zero ns))
reduced Cell ns = pos 0
reduced Scalar ns = pos 0

-- the level that an item reads first
abbrev pub first_read : State → List Touch → List ℤ
first_read state [] = []
first_read state (r ∷ rs) = level_of state r.var r.level

-- a reduction: one number from the level that is read first
abbrev pub reduce_turn : Setup → Item → State → Option State
reduce_turn setup x state =
    scalar_turn x state (if_fit setup x.writes
    (Some (reduced x.kind (first_read state x.reads) ∷ [])))

-- a turn by the kind of its item
abbrev pub turn_by : ItemKind → Setup → List Rule → Item → State → ℕ → Option State
turn_by Cell setup rules x state iteration = cell_turn setup rules x state iteration
turn_by Scalar setup rules x state iteration =
    scalar_turn x state (numbers_at setup rules x (values_of setup state)
    iteration first_point first_point)
turn_by Sum setup rules x state iteration = reduce_turn setup x state
turn_by Least setup rules x state iteration = reduce_turn setup x state
turn_by Greatest setup rules x state iteration = reduce_turn setup x state
turn_by Count setup rules x state iteration = reduce_turn setup x state

-- the state after an item's turn; none where a rule gives no numbers or a number leaves its type
abbrev pub turn : Setup → List Rule → Item → State → ℕ → Option State
turn setup rules x state iteration = turn_by x.kind setup rules x state iteration
