-- Why the jobs of a batch aren't run.
use Rattle.std.specs.Prelude.{ℕ, ◌^◌, nat_lt, List, Option, Some, None, option_map, if◌then◌else◌}
use Rattle.cx_plan.specs.Lists.{or_else}
use Rattle.cx_plan.specs.declared.job.Job.{Job}
use Rattle.cx_job.specs.declared.fault.JobFault.{JobFault}
use Rattle.cx_job.specs.declared.fault.JobFault.TheVariants as job_faults
use Rattle.cx_text.specs.Numbers.{in_64_bits}
use Rattle.cx_several.specs.Folders.{same_folder}
use Rattle.cx_several.specs.Cells.{local_by_all, owned_by_all}
use Rattle.cx_several.specs.declared.fault.BatchFault.{BatchFault}
use Rattle.cx_several.specs.declared.fault.BatchFault.TheVariants as faults

-- the fault of a file that makes no job
abbrev pub of_file : List ℕ → JobFault → BatchFault
of_file file job_faults.Shelf = faults.Shelf
of_file file job_faults.Memory = faults.Memory
of_file file fault = faults.Job file fault

-- two jobs share a folder
abbrev pub folder_fault : List (List ℕ) → List Job → Option BatchFault
folder_fault files jobs =
    option_map (λ pair. faults.SameFolder pair.0 pair.1) (same_folder files jobs)

-- a number of cells is above its limit
abbrev pub above : ℕ → ℕ → Option BatchFault
above number most = if nat_lt most number then Some (faults.Limit (in_64_bits number)) else None

-- all jobs together have too many cells
abbrev pub cells_fault : List Job → Option BatchFault
cells_fault jobs = or_else (above (owned_by_all jobs) (2 ^ 26)) (above (local_by_all jobs) (2 ^ 27))

-- the first fault of jobs that were made
abbrev pub jobs_fault : List (List ℕ) → List Job → Option BatchFault
jobs_fault files jobs = or_else (folder_fault files jobs) (cells_fault jobs)
