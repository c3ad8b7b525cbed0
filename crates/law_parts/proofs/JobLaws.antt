-- The laws of a run in parts, of all runs of a whole job.
use Rattle.std.proofs.Common.{List}
use Rattle.cx_grid.specs.Grid.{HasInterior}
use Rattle.cx_plan.specs.declared.job.Job.{Job}
use Rattle.cx_plan.specs.Regions.{HasShapes}
use Rattle.cx_plan.specs.Setups.{setup_of}
use Rattle.cx_plan.specs.Whole.{IsWhole}
use Rattle.cx_rule.specs.Routine.{Rule}
use Rattle.cx_cut.specs.Cuts.{IsCut}
use Rattle.cx_cut.specs.Faults.{parts_of}
use Rattle.cx_flat.specs.Laws.{RunsAs, FlatIsRun}
use Rattle.cx_flat.specs.Places.{OperationsMet}
use Rattle.cx_flat.specs.Ways.{WaysEnd}
use Rattle.law_parts.specs.Beginnings.{Beginning, Afresh, From, IsBeginning, run_of}
use Rattle.law_parts.specs.Ends.{OneEnd}
use Rattle.law_parts.specs.Laws.{EachOrder, StepsKeep}
use Rattle.law_parts.specs.Nets.{within_lead, in_lockstep}
use Rattle.law_parts.specs.Runs.{cut_of}
use Rattle.law_parts.specs.Totals.{undivided_from, DoneCounts}
use Rattle.law_parts.proofs.EndTotals.{one_end, done_counts}
use Rattle.law_parts.proofs.StepLaws.{steps_keep}
use Rattle.law_parts.proofs.ToldLaws.{lead_orders, lockstep_orders}
use Rattle.law_parts.specs.Works.{OneWork}
use Rattle.law_parts.proofs.WholeRun.{IsRun, job_run}
use Rattle.law_parts.proofs.WorkLaws.{lead_works, lockstep_works}

module _ (job : Job) (whole : IsWhole job) (shapes : HasShapes (setup_of job))
    (interior : HasInterior job.shape) (cut : IsCut (parts_of job.shape job.cut))
    (flat : (rules : List Rule) → FlatIsRun (setup_of job) rules) (ways : WaysEnd (setup_of job))
    (met : (rules : List Rule) → OperationsMet (setup_of job) rules)
    (rules : List Rule) (b : Beginning) (begins : IsBeginning (setup_of job) b) where
  -- both kinds of runs have the job's cut
  cut_is : (b : Beginning) → IsCut (cut_of (run_of job rules b))
  cut_is Afresh = cut
  cut_is (From c state so_far) = cut

  run : IsRun (run_of job rules b)
  run = job_run job rules b whole shapes interior begins (cut_is b) (flat rules) ways (met rules)

  pub by_lead : EachOrder within_lead (run_of job rules b)
  by_lead = lead_orders (run_of job rules b) run

  pub in_step : EachOrder in_lockstep (run_of job rules b)
  in_step = lockstep_orders (run_of job rules b) run

  pub all_steps : (tells : Type 0) → StepsKeep tells (run_of job rules b)
  all_steps tells = steps_keep tells (run_of job rules b) run

  -- what is noted from each beginning is the undivided run from there
  runs_from : (b : Beginning) → IsBeginning (setup_of job) b
      → RunsAs (run_of job rules b).setup (run_of job rules b).rules (run_of job rules b).first
      (run_of job rules b).so_far (undivided_from (setup_of job) rules b)
  runs_from Afresh h = (flat rules).undivided
  runs_from (From c state so_far) h = (flat rules).continued c state so_far h.0

  pub lead_counts : DoneCounts within_lead (run_of job rules b)
      (undivided_from (setup_of job) rules b)
  lead_counts = done_counts (run_of job rules b) run (undivided_from (setup_of job) rules b)
      (runs_from b begins) within_lead by_lead

  pub step_counts : DoneCounts in_lockstep (run_of job rules b)
      (undivided_from (setup_of job) rules b)
  step_counts = done_counts (run_of job rules b) run (undivided_from (setup_of job) rules b)
      (runs_from b begins) in_lockstep in_step

  pub lead_end : OneEnd within_lead (run_of job rules b) (undivided_from (setup_of job) rules b)
  lead_end = one_end (run_of job rules b) run (undivided_from (setup_of job) rules b)
      (runs_from b begins) within_lead by_lead

  pub step_end : OneEnd in_lockstep (run_of job rules b) (undivided_from (setup_of job) rules b)
  step_end = one_end (run_of job rules b) run (undivided_from (setup_of job) rules b)
      (runs_from b begins) in_lockstep in_step

  pub lead_work : OneWork within_lead (run_of job rules b)
  lead_work = lead_works (run_of job rules b) run by_lead

  pub step_work : OneWork in_lockstep (run_of job rules b)
  step_work = lockstep_works (run_of job rules b) run in_step
