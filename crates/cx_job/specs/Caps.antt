-- The largest part of a job, and the routines that don't sweep it.
use Rattle.std.specs.Prelude.{ℕ, nat_lt, List, slice_get, Option, Some, None, if◌then◌else◌}
use Rattle.std.specs.List.{range_with_len}
use Rattle.cx_grid.specs.Boxes.{point_count}
use Rattle.cx_plan.specs.Lists.{first_of_each}
use Rattle.cx_plan.specs.declared.item.Item.{Item}
use Rattle.cx_plan.specs.declared.job.Job.{Job}
use Rattle.cx_rule.specs.declared.spec.Spec.{Spec}
use Rattle.cx_cut.specs.Cuts.{Parts, part_count, local}
use Rattle.cx_cut.specs.Faults.{parts_of}
use Rattle.cx_job.specs.LocalCells.{greatest, items_run}
use Rattle.cx_job.specs.declared.fault.JobFault.{JobFault}
use Rattle.cx_job.specs.declared.fault.JobFault.TheVariants.{TooLarge}

-- how many points a part holds, its own ones and its ghosts, and the greatest of these numbers
abbrev pub part_points : Parts → ℕ → ℕ
part_points c k = point_count (local c k)

abbrev pub greatest_part : Parts → ℕ
greatest_part c = greatest (part_points c) (range_with_len 0 (part_count c))

-- a part of so many points is too large for an item's object, where there is one
abbrev pub too_large : ℕ → List ℕ → Option Spec → Option JobFault
too_large points path None = None
too_large points path (Some s) = if nat_lt s.cap points then Some (TooLarge path points s.cap)
    else None

abbrev pub cap_fault : List Spec → ℕ → Item → Option JobFault
cap_fault specs points x = too_large points x.path (slice_get specs x.routine)

-- the first item that is run for whose object the greatest part is too large
abbrev pub caps_fault : List Spec → Job → Option JobFault
caps_fault specs job = first_of_each (cap_fault specs (greatest_part (parts_of job.shape job.cut)))
    (items_run job)
