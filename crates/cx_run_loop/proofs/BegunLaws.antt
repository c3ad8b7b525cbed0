-- From a run that has begun on a disk to the end of its drive.
use Rattle.std.proofs.Common.{◌≤◌, ◌<◌, ◌^◌, ℕ, List, inl, inr}
use Rattle.std.specs.Prelude.{Option, Result, Ok, Err, IfOk, OnErr, IsTrue}
use Rattle.cx_plan.specs.declared.job.Job.{Job}
use Rattle.cx_plan.specs.Setups.{setup_of}
use Rattle.cx_rule.specs.Routine.{Rule}
use Rattle.cx_rule.specs.declared.spec.Spec.{Spec}
use Rattle.cx_model.specs.Checkpoints.{Continues}
use Rattle.cx_disk.specs.declared.disk.Disk.{Ghosts as DiskGhosts}
use Rattle.cx_wire.specs.declared.wire.Wire.{Ghosts as WireGhosts}
use Rattle.cx_turns.specs.declared.turns.Turns.{Ghosts as TurnsGhosts}
use Rattle.cx_chk.specs.declared.checkpoint.Checkpoint.{Checkpoint}
use Rattle.cx_keep.specs.Beginning.{StartMoments}
use Rattle.cx_core.specs.Cores.{Cores}
use Rattle.cx_core.specs.Starts.{AreEmpty}
use Rattle.cx_core.specs.Steps.{Counts, counts}
use Rattle.cx_run_loop.specs.declared.fault.DriveFault.{DriveFault}
use Rattle.cx_run_loop.specs.Advances.{place_of, run_state}
use Rattle.cx_run_loop.specs.Cores.{From, LeadsOut, LeadsStop, RunsOn, RunsOut, run_by}
use Rattle.cx_run_loop.specs.Drives.{Drive, Drives, LendsScalars, driven_by}
use Rattle.cx_run_loop.specs.Faults.{Stops}
use Rattle.cx_run_loop.specs.Going.{Place, IsGoing, setting}
use Rattle.cx_run_loop.specs.Laws.{DriveLaws}
use Rattle.cx_run_loop.specs.Turning.{StopsTurns, TakesTurns}
use Rattle.cx_run_loop.specs.UnderWay.{HasBegun, HasBegunAt, Runs}
use Rattle.cx_run_loop.proofs.DriveLaws.{drives, lends_scalars}
use Rattle.cx_run_loop.proofs.StopLaws.{count}
use Rattle.cx_run_loop.proofs.UnderWayLaws.{going_at}

module _ {D W : Type 0} (d : DiskGhosts D) (w : WireGhosts W) (job : Job) (rules : List Rule)
    (disk mid : D) (wire : W) (meter : ℕ) (found : Option Checkpoint) (run : Runs)
    (begun : HasBegun job d.tells found run (d.view disk) (d.view mid))
    (empty : AreEmpty (w.queue wire)) (fits : IsTrue w.tells → w.sum wire < 2 ^ 64) where
  abbrev first : Counts
  first = counts meter (w.received wire) (w.sum wire)

  abbrev was : Place (setting d w job rules)
  was = place_of d w job rules (run_state run mid wire meter)

  pub begun_at : HasBegunAt (setting d w job rules) found run.keeper was
  begun_at = begun.at w.tells rules (w.queue wire) first empty fits

  pub can_go : IsGoing (setting d w job rules) run.keeper was
  can_go = going_at (setting d w job rules) found run.keeper was begun_at

  module _ (specs : List Spec) (after : D) (wire_after : W) (meter_after : ℕ) where
    abbrev from : From
    from = run_by job rules specs found

    abbrev driven : Drive
    driven = driven_by job rules specs d w disk after wire wire_after meter meter_after

    module _ (laws : DriveLaws (IsTrue w.tells) job rules)
        (continues : Continues (setup_of job) rules)
        (reads : d.tells → (d.view disk).images (d.view disk).seen) (r : Result Cores DriveFault)
        (end : IfOk r (RunsOut d w from mid after wire wire_after meter meter_after)) where
      pub drives_on : (d.tells → StartMoments job job.recover (d.view disk) (d.view mid))
          → RunsOn d w from mid after wire wire_after meter meter_after
          → d.faults disk ≤ d.faults mid
          → Stops (count (d.faults mid) (d.faults after))
          (count (w.faults wire) (w.faults wire_after)) r
          → Drives driven r
      drives_on moments runs later stops =
          drives driven laws (d.view mid) found reads begun.found_is continues begun.lengths
          begun.started r end moments runs.moments (d.faults mid) later stops runs.points
          runs.values runs.below

      pub lends_on : IfOk r (LendsScalars job)
      lends_on =
          lends_scalars driven laws (d.view mid) found reads begun.found_is continues
          begun.lengths begun.started r end

    -- turn after turn, from where the run has begun
    module _ {T : Type 0} (t : TurnsGhosts T) (turns turns_after : T) where
      takes : (core : Cores)
          → LeadsOut w t from wire wire_after meter meter_after turns turns_after core
          → TakesTurns t driven turns turns_after core
      takes core lead = record {
        found = found;
        first = lead.first;
        is_first = record { began = begun.found_is; begins = lead.begins };
        checkpoints = lead.checkpoints;
        lead = lead.lead;
      }

      pub turns_on : (r : Result Cores DriveFault)
          → IfOk r (LeadsOut w t from wire wire_after meter meter_after turns turns_after)
          → IfOk r (TakesTurns t driven turns turns_after)
      turns_on (Ok core) lead = takes core lead
      turns_on (Err fault) lead = tt

      stops : LeadsStop w t from wire meter turns turns_after
          → StopsTurns t driven turns turns_after
      stops (inl same) = inl same
      stops (inr (core, begins, stop)) =
          inr (found, core, record { began = begun.found_is; begins = begins }, stop)

      pub stops_on : (r : Result Cores DriveFault)
          → OnErr r (LeadsStop w t from wire meter turns turns_after)
          → OnErr r (StopsTurns t driven turns turns_after)
      stops_on (Ok core) stop = tt
      stops_on (Err fault) stop = stops stop
