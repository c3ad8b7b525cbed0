-- A run that goes on with another core.
use Rattle.std.proofs.Common.{◌<◌, ◌+◌, ◌^◌, ℕ, List, refl, sym, subst}
use Rattle.std.specs.Prelude.{IsTrue, Some}
use Rattle.cx_plan.specs.declared.job.Cuts.{Cuts}
use Rattle.cx_plan.specs.declared.job.Job.{Job}
use Rattle.cx_plan.specs.Setups.{setup_of}
use Rattle.cx_rule.specs.Routine.{Rule}
use Rattle.cx_rule.specs.declared.spec.Spec.{Spec}
use Rattle.cx_disk.specs.declared.disk.Disk.{Ghosts as DiskGhosts}
use Rattle.cx_wire.specs.declared.wire.Wire.{Ghosts as WireGhosts}
use Rattle.cx_chk.specs.declared.checkpoint.Checkpoint.{Checkpoint}
use Rattle.cx_keep.specs.Keeping.{Keeper}
use Rattle.cx_core.specs.Starts.{AreEmpty, begins_in}
use Rattle.cx_core.specs.Steps.{Counts, counts}
use Rattle.cx_run_loop.specs.CoresWait.{CoresWait}
use Rattle.cx_run_loop.specs.Going.{IsGoing, IsKept, Place, Setting, place_at, setting}
use Rattle.cx_run_loop.specs.Recuts.{next_cut, with_cut}
use Rattle.cx_run_loop.specs.UnderWay.{BeginsAnew, HasBegunAt, Runs}
use Rattle.cx_run_loop.specs.Waiting.{HoldsCheckpoint}
use Rattle.cx_run_loop.proofs.CoresGo.{kept_anew, waits_at}
use Rattle.cx_run_loop.proofs.UnderWayLaws.{come_at, going_at}
use Rattle.cx_run_batch.specs.Stages.{ComesWaiting, HaveWaited}

module _ {D W : Type 0} (d : DiskGhosts D) (w : WireGhosts W) (rules : List Rule)
    (specs : List Spec) (job : Job) (cut : Cuts) (disk : D) (wire : W) (meter : ℕ) (mid run : Runs)
    (kept : IsKept (with_cut job cut) d.tells mid.keeper mid.core (d.view disk))
    (holds : HoldsCheckpoint (setup_of job) mid.core) (empty : AreEmpty (w.queue wire))
    (fits : IsTrue w.tells → w.sum wire < 2 ^ 64)
    (anew : BeginsAnew (with_cut job (next_cut specs job mid.core.buffers.state)) specs job
    mid.core.buffers.state mid.keeper run) where
  abbrev c : Checkpoint
  c = mid.core.buffers.state

  abbrev next : Cuts
  next = next_cut specs job c

  abbrev s : Setting
  s = setting d w (with_cut job next) rules

  abbrev p : Place s
  p = place_at d w run.core disk wire meter

  abbrev now : Counts
  now = counts meter (w.received wire) (w.sum wire)

  begun : HasBegunAt s (Some c) run.keeper p
  begun = record {
    begins = anew.can;
    begun = anew.begins w.tells rules (w.queue wire) now empty fits;
    kept = subst (λ (k : Keeper). IsKept (with_cut job next) d.tells k run.core (d.view disk))
        (sym anew.keeper)
        (kept_anew (with_cut job cut) (with_cut job next) d.tells mid.keeper mid.core run.core c
        (d.view disk) refl refl kept holds refl anew.key anew.lengths);
  }

  pub going_anew : IsGoing s run.keeper p
  going_anew = going_at s (Some c) run.keeper p begun

  module _ (wait : CoresWait (IsTrue w.tells) (with_cut job next) rules
      (begins_in (setup_of job) (Some c))) where
    pub comes_anew : ComesWaiting s (Some c) now (d.view disk) p
    comes_anew = record {
      come = come_at s (Some c) run.keeper p begun anew.going;
      waits = λ same. waits_at s (Some c) run.keeper p begun anew.going wait;
    }

    pub waited_anew : HaveWaited s (c.iteration + 1) p
    waited_anew = record {
      found = Some c;
      first = now;
      next_is = refl;
      there = (come_at s (Some c) run.keeper p begun anew.going).there;
      waiting = waits_at s (Some c) run.keeper p begun anew.going wait;
    }
