-- The runs of a whole job, and the undivided run that they are of.
use Rattle.std.proofs.Common.{List}
use Rattle.cx_grid.specs.Grid.{HasInterior}
use Rattle.cx_plan.specs.declared.job.Job.{Job}
use Rattle.cx_plan.specs.Regions.{HasShapes}
use Rattle.cx_plan.specs.Setups.{setup_of}
use Rattle.cx_plan.specs.Whole.{IsWhole}
use Rattle.cx_rule.specs.Routine.{Rule}
use Rattle.cx_cut.specs.Cuts.{IsCut}
use Rattle.cx_cut.specs.Faults.{parts_of}
use Rattle.cx_flat.specs.Laws.{RunsAs, FlatIsRun}
use Rattle.cx_flat.specs.Places.{OperationsMet}
use Rattle.cx_flat.specs.Ways.{WaysEnd}
use Rattle.law_parts.specs.Beginnings.{Beginning, Afresh, From, IsBeginning, run_of}
use Rattle.law_parts.specs.Runs.{cut_of}
use Rattle.law_parts.specs.Totals.{undivided_from}
use Rattle.law_parts.proofs.WholeRun.{IsRun, job_run}

module _ (job : Job) (whole : IsWhole job) (shapes : HasShapes (setup_of job))
    (interior : HasInterior job.shape) (cut : IsCut (parts_of job.shape job.cut))
    (flat : (rules : List Rule) → FlatIsRun (setup_of job) rules) (ways : WaysEnd (setup_of job))
    (met : (rules : List Rule) → OperationsMet (setup_of job) rules)
    (rules : List Rule) where
  cut_is : (b : Beginning) → IsCut (cut_of (run_of job rules b))
  cut_is Afresh = cut
  cut_is (From c state so_far) = cut

  pub run_is : (b : Beginning) → IsBeginning (setup_of job) b → IsRun (run_of job rules b)
  run_is b begins = job_run job rules b whole shapes interior begins (cut_is b) (flat rules) ways
      (met rules)

  -- what is noted from a beginning is the undivided run from there
  pub runs_from : (b : Beginning) → IsBeginning (setup_of job) b
      → RunsAs (run_of job rules b).setup (run_of job rules b).rules (run_of job rules b).first
      (run_of job rules b).so_far (undivided_from (setup_of job) rules b)
  runs_from Afresh h = (flat rules).undivided
  runs_from (From c state so_far) h = (flat rules).continued c state so_far h.0
