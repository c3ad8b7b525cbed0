-- How many points a run computes.
use Rattle.std.specs.Prelude.{ℕ, ◌+◌, List, [], ◌∷◌, length, filter}
use Rattle.cx_grid.specs.Boxes.{points_in}
use Rattle.cx_grid.specs.Grid.{whole}
use Rattle.cx_plan.specs.declared.item.Item.{Item}
use Rattle.cx_plan.specs.declared.item.ItemKind.{ItemKind}
use Rattle.cx_plan.specs.declared.item.ItemKind.TheVariants.{Cell, Scalar, Sum, Least, Greatest, Count}
use Rattle.cx_plan.specs.Lookups.{item}
use Rattle.cx_plan.specs.Regions.{region_of}
use Rattle.cx_plan.specs.Setups.{Setup}
use Rattle.cx_model.specs.Traces.{Entry, Turned}
use Rattle.cx_rule.specs.Sweeps.{in_region}

-- how many points a turn of an item computes: those of its region, of a Scalar item one, of a
-- reduction none
abbrev pub points_by : ItemKind → Setup → Item → ℕ
points_by Cell setup x =
    length (filter (in_region setup.shape (region_of x.writes)) (points_in (whole setup.shape)))
points_by Scalar setup x = 1
points_by Sum setup x = 0
points_by Least setup x = 0
points_by Greatest setup x = 0
points_by Count setup x = 0

-- the points that an item's turn computes
abbrev pub turn_points : Setup → Item → ℕ
turn_points setup x = points_by x.kind setup x

-- the points that an entry computes
abbrev pub entry_points : Setup → Entry → ℕ
entry_points setup (Turned k iteration state) = turn_points setup (item setup k)
entry_points setup _ = 0

-- how many points the turns of a run compute
abbrev pub points_computed : Setup → List Entry → ℕ
points_computed setup [] = 0
points_computed setup (e ∷ es) = entry_points setup e + points_computed setup es
