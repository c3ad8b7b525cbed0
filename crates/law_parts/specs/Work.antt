-- How many points a run in parts computes, and what it exchanges: folds over the entries of a run,
-- whatever the order of its events.
use Rattle.std.specs.Prelude.{ℕ, ◌+◌, ◌%◌, ◌^◌, List, [], ◌∷◌, length, filter, is_some, cond}
use Rattle.cx_grid.specs.Boxes.{point_count, points_in, numbers_in}
use Rattle.cx_plan.specs.declared.variable.VarId.{VarId}
use Rattle.cx_plan.specs.declared.item.Region.{Region}
use Rattle.cx_plan.specs.declared.item.Region.TheVariants.{Interior, Boundary, Everywhere}
use Rattle.cx_plan.specs.declared.item.ItemKind.{ItemKind}
use Rattle.cx_plan.specs.declared.item.ItemKind.TheVariants.{Cell, Scalar, Sum, Least, Greatest, Count}
use Rattle.cx_plan.specs.declared.item.Item.{Item}
use Rattle.cx_plan.specs.Setups.{Setup}
use Rattle.cx_plan.specs.Lookups.{item}
use Rattle.cx_plan.specs.Regions.{region_of}
use Rattle.cx_model.specs.States.{State}
use Rattle.cx_model.specs.Turns.{in_region, values_of}
use Rattle.cx_model.specs.Traces.{Entry, Turned, Exchanged}
use Rattle.cx_model.specs.Work.{turn_points}
use Rattle.cx_grid.specs.declared.shapes.Side.{Side}
use Rattle.cx_grid.specs.declared.shapes.Side.TheVariants.{Low, High}
use Rattle.cx_cut.specs.Cuts.{Parts, face_of, part_count, local}
use Rattle.cx_cut.specs.Neighbours.{partner}
use Rattle.law_network.specs.Machine.{sum_below}
use Rattle.cx_text.specs.Numbers.{word_sum}

-- ---- turns

-- the local points of a region, over all parts
abbrev pub local_points : Setup → Parts → Region → ℕ
local_points setup cut region =
    sum_below (part_count cut)
    (λ k. length (filter (in_region setup.shape region) (points_in (local cut k))))

-- a writer of the interior sweeps each interior point once, another one all local points of its
-- region
abbrev pub cell_work : Setup → Parts → Item → Region → ℕ
cell_work setup cut x Interior = turn_points setup x
cell_work setup cut x Boundary = local_points setup cut Boundary
cell_work setup cut x Everywhere = local_points setup cut Everywhere

abbrev pub item_work : Setup → Parts → Item → ItemKind → ℕ
item_work setup cut x Cell = cell_work setup cut x (region_of x.writes)
item_work setup cut x Scalar = (part_count cut)
item_work setup cut x Sum = 0
item_work setup cut x Least = 0
item_work setup cut x Greatest = 0
item_work setup cut x Count = 0

abbrev pub entry_work : Setup → Parts → Entry → ℕ
entry_work setup cut (Turned k iteration state) =
    item_work setup cut (item setup k) (item setup k).kind
entry_work setup cut _ = 0

abbrev pub work : Setup → Parts → List Entry → ℕ
work setup cut [] = 0
work setup cut (e ∷ es) = entry_work setup cut e + work setup cut es

-- ---- exchanges

-- of a side of a part that has a neighbour there: how many values its face has, and their sum
abbrev pub side_count : Setup → Parts → ℕ → ℕ → Side → ℕ
side_count setup cut k d side =
    cond (is_some (partner cut k d side)) (point_count (face_of cut k d side)) 0

abbrev pub side_sum : Setup → Parts → State → VarId → ℕ → ℕ → Side → ℕ
side_sum setup cut state v k d side =
    cond (is_some (partner cut k d side))
    (word_sum (numbers_in (face_of cut k d side) (values_of setup state v 0))) 0

abbrev pub over_sides : Setup → Parts → (ℕ → ℕ → Side → ℕ) → ℕ
over_sides setup cut f =
    sum_below setup.shape.dims (λ d. sum_below (part_count cut) (λ k. f k d Low + f k d High))

abbrev pub over_variables : (VarId → ℕ) → List VarId → ℕ
over_variables f [] = 0
over_variables f (v ∷ vs) = f v + over_variables f vs

abbrev pub entry_count : Setup → Parts → Entry → ℕ
entry_count setup cut (Exchanged vars path state) =
    over_variables (λ v. over_sides setup cut (side_count setup cut)) vars
entry_count setup cut _ = 0

abbrev pub entry_sum : Setup → Parts → Entry → ℕ
entry_sum setup cut (Exchanged vars path state) =
    over_variables (λ v. over_sides setup cut (side_sum setup cut state v)) vars
entry_sum setup cut _ = 0

abbrev pub carried_count : Setup → Parts → List Entry → ℕ
carried_count setup cut [] = 0
carried_count setup cut (e ∷ es) = entry_count setup cut e + carried_count setup cut es

abbrev pub total_sum : Setup → Parts → List Entry → ℕ
total_sum setup cut [] = 0
total_sum setup cut (e ∷ es) = entry_sum setup cut e + total_sum setup cut es

abbrev pub carried_sum : Setup → Parts → List Entry → ℕ
carried_sum setup cut es = total_sum setup cut es % 2 ^ 64
