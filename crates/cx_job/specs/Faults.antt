-- The faults of the layers below, as a job's.
use Rattle.cx_job_files.specs.declared.fault.ConfigFault.{ConfigFault}
use Rattle.cx_job_files.specs.declared.fault.ConfigFault.TheVariants as configs
use Rattle.cx_job_items.specs.declared.fault.MatchFault.{MatchFault}
use Rattle.cx_job_items.specs.declared.fault.MatchFault.TheVariants as matches
use Rattle.cx_job.specs.declared.fault.JobFault.{JobFault}
use Rattle.cx_job.specs.declared.fault.JobFault.TheVariants as faults

abbrev pub config_fault : ConfigFault → JobFault
config_fault configs.Shelf = faults.Shelf
config_fault (configs.NoFile name) = faults.NoFile name
config_fault (configs.Text name fault) = faults.Text name fault
config_fault (configs.Ccl name fault) = faults.Ccl name fault
config_fault (configs.Bind fault) = faults.Bind fault
config_fault configs.Memory = faults.Memory

abbrev pub match_fault : MatchFault → JobFault
match_fault (matches.UnknownRoutine path) = faults.UnknownRoutine path
match_fault (matches.RoutineMismatch path declared offered) =
    faults.RoutineMismatch path declared offered
match_fault matches.Memory = faults.Memory
