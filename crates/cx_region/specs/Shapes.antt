-- The first item without a shape.
use Rattle.std.specs.Prelude.{ℕ, Bool, not, ◌&&◌, List, [], ◌∷◌, length, find, Option, option_map}
use Rattle.std.specs.List.{range_with_len}
use Rattle.cx_plan.specs.declared.item.Touch.{Touch}
use Rattle.cx_plan.specs.declared.item.Item.{Item}
use Rattle.cx_plan.specs.Setups.{Setup}
use Rattle.cx_plan.specs.Lookups.{variable, item}
use Rattle.cx_plan.specs.Regions.{run_items, has_shape}
use Rattle.cx_region.specs.declared.fault.RegionFault.{RegionFault}
use Rattle.cx_region.specs.declared.fault.RegionFault.TheVariants.{Shape}
use Rattle.cx_region.specs.Marks.{is_among_items}

-- whether an item is called by a bin that is run, and has no shape
abbrev pub lacks_shape : Setup → ℕ → Bool
lacks_shape setup k = is_among_items (run_items setup) k && not (has_shape setup (item setup k))

-- the first of these in the order of items
abbrev pub first_shapeless : Setup → Option ℕ
first_shapeless setup = find (lacks_shape setup) (range_with_len 0 (length setup.items))

-- the full name of the first write
abbrev pub first_written : Setup → List Touch → List ℕ
first_written setup [] = []
first_written setup (w ∷ ws) = (variable setup w.var).full

abbrev pub no_shape : Setup → Item → RegionFault
no_shape setup x = Shape x.path (first_written setup x.writes)

abbrev pub shape_fault : Setup → Option RegionFault
shape_fault setup = option_map (λ k. no_shape setup (item setup k)) (first_shapeless setup)
