-- Which reads and writes stand in rows of the table.
use Rattle.std.specs.Prelude.{Bool, not, ◌&&◌, is_some}
use Rattle.cx_plan.specs.declared.item.Region.{Region}
use Rattle.cx_plan.specs.declared.item.Touch.{Touch}
use Rattle.cx_plan.specs.declared.item.Item.{Item}
use Rattle.cx_plan.specs.Setups.{Setup}
use Rattle.cx_plan.specs.Lookups.{is_scalar}
use Rattle.cx_plan.specs.Regions.{same_region, read_needs}

-- whether a grid variable is written in this region
abbrev pub is_in_region : Setup → Region → Touch → Bool
is_in_region setup region w = not (is_scalar setup w.var) && same_region w.region region

-- whether a read of an item stands in a row
abbrev pub has_row : Setup → Item → Touch → Bool
has_row setup x r = is_some (read_needs setup x r)
