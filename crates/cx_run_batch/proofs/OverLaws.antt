-- A run that is over, and whose job has its own cut again.
use Rattle.std.proofs.Common.{◌≡◌, ◌≢◌, ◌≤◌, ◌+◌, ℕ, List, true, length, sym, subst, arith}
use Rattle.std.specs.Prelude.{IsTrue, Option, Result, Ok, Err, IfOk, OnOk}
use Rattle.cx_plan.specs.declared.job.Job.{Job}
use Rattle.cx_rule.specs.Routine.{Rule}
use Rattle.cx_rule.specs.declared.spec.Spec.{Spec}
use Rattle.cx_disk.specs.Moments.{IsQuiet}
use Rattle.cx_disk.specs.declared.disk.Disk.{Ghosts as DiskGhosts}
use Rattle.cx_wire.specs.declared.wire.Wire.{Ghosts as WireGhosts}
use Rattle.cx_chk.specs.declared.checkpoint.Checkpoint.{Checkpoint}
use Rattle.cx_keep.specs.Trails.{OutputsSettled}
use Rattle.cx_core.specs.declared.answers.Outcome.TheVariants.{Going as GoesOn}
use Rattle.cx_core.specs.Cores.{Cores}
use Rattle.cx_core.specs.Hands.{Stands}
use Rattle.cx_core.specs.Steps.{Counts, counts}
use Rattle.cx_run_loop.specs.Advances.{CanAdvance, Keeps, run_state}
use Rattle.cx_run_loop.specs.Cores.{run_by, start_of}
use Rattle.cx_run_loop.specs.Faults.{Stops}
use Rattle.cx_run_loop.specs.Going.{EndsAt, IsDriving, IsGoing, MovesOn, Place, Setting, place_at, run_in, setting, trace_in}
use Rattle.cx_run_loop.specs.Laws.{DriveLaws}
use Rattle.cx_run_loop.specs.Recuts.{cut_from, with_cut}
use Rattle.cx_run_loop.specs.Segments.{RunsBy}
use Rattle.cx_run_loop.specs.UnderWay.{Runs}
use Rattle.cx_run_loop.specs.Waiting.{StaysBelow}
use Rattle.cx_run_loop.specs.declared.fault.DriveFault.{DriveFault}
use Rattle.cx_run_loop.specs.declared.turn.Advance.{Advance}
use Rattle.cx_run_loop.proofs.AdvanceLaws.{can_again, keeps_more, keeps_quiet}
use Rattle.cx_run_loop.proofs.StepLaws.{ends_with}
use Rattle.cx_run_loop.proofs.StopLaws.{count, stopped_after}
use Rattle.cx_run_loop.proofs.TurnLaws.{moves_none}
use Rattle.cx_run_batch.specs.Stages.{ComesWaiting, IsOnWay, IsOver, lot}
use Rattle.cx_run_batch.specs.declared.stage.UnderWay.{UnderWay}
use Rattle.cx_run_batch.proofs.StageLaws.{over, runs_out, stopped}

-- its job was this one before, and is the new one now
module _ {D W : Type 0} (d : DiskGhosts D) (w : WireGhosts W) (rules : List Rule)
    (specs : List Spec) (now : Job) (x : UnderWay) (new : Job) (new_is : new ≡ with_cut now x.own)
    (new_laws : DriveLaws (IsTrue w.tells) new rules) where
  abbrev job : Job
  job = with_cut now x.own

  abbrev s : Setting
  s = setting d w now rules

  abbrev at_place : Cores → D → W → ℕ → Place s
  at_place core disk wire meter = place_at d w core disk wire meter

  laws : DriveLaws (IsTrue w.tells) job rules
  laws = subst (λ (j : Job). DriveLaws (IsTrue w.tells) j rules) new_is new_laws

  -- ---- it has stopped

  pub stopped_on : (disk_lent disk after : D) (wire_lent wire wire_after : W)
      (meter meter_after spent more : ℕ) → meter_after ≡ meter + more
      → IsOnWay d w rules specs job now.cut (lot disk_lent disk wire_lent wire meter spent) x
      → Keeps d w now rules (run_state x.run disk wire meter) after wire_after meter_after
      → (d.tells → (d.view disk_lent).images (d.view disk_lent).seen) → (fault : DriveFault)
      → Stops {A = Advance} (count (d.faults disk) (d.faults after))
      (count (w.faults wire) (w.faults wire_after)) (Err fault)
      → (now.balance ≡ true
      → StaysBelow s (at_place x.run.core disk wire meter)
      (counts meter_after (w.received wire_after) (w.sum wire_after)))
      → IsOver d w rules specs new
      (lot disk_lent after wire_lent wire_after meter_after (spent + more)) (Err fault)
  stopped_on disk_lent disk after wire_lent wire wire_after meter meter_after spent more metered_so
      o keeps reads fault stops waits =
      subst (λ (j : Job). IsOver d w rules specs j
      (lot disk_lent after wire_lent wire_after meter_after (spent + more)) (Err fault))
      (sym new_is)
      (stopped d w rules specs job now.cut disk_lent disk after wire_lent wire wire_after meter
      meter_after spent more metered_so x o keeps stops.disk_later stops.wire_later laws reads fault
      stops waits)

  -- ---- it has come to its end, and is finished on its disk

  module _ (disk_lent disk mid after : D) (wire_lent wire wire_after : W) (meter meter_after : ℕ)
      (spent more : ℕ) (metered_so : meter_after ≡ meter + more) (last : Runs)
      (o : IsOnWay d w rules specs job now.cut (lot disk_lent disk wire_lent wire meter spent) x)
      (now_laws : DriveLaws (IsTrue w.tells) now rules)
      (able : CanAdvance d w now rules (run_state x.run disk wire meter))
      (keeps : Keeps d w now rules (run_state x.run disk wire meter) mid wire_after meter_after)
      (moves : MovesOn s (at_place x.run.core disk wire meter)
      (at_place last.core mid wire_after meter_after))
      (going : IsGoing s last.keeper (at_place last.core mid wire_after meter_after))
      (disk_later : d.faults disk ≤ d.faults mid)
      (wire_later : w.faults wire ≤ w.faults wire_after)
      (quiet : d.tells → IsQuiet (d.view mid) (d.view after)) (mounted : IsTrue (d.mounted after))
      (files : d.file_count after ≡ d.file_count mid)
      (folders : d.folders after ≡ d.folders mid) where
    mid_able : CanAdvance d w now rules (run_state last mid wire_after meter_after)
    mid_able = can_again d w now rules (run_state x.run disk wire meter)
        (run_state last mid wire_after meter_after) able keeps going

    all_keeps : Keeps d w now rules (run_state x.run disk wire meter) after
        wire_after meter_after
    all_keeps = keeps_more d w now rules (run_state x.run disk wire meter)
        (run_state last mid wire_after meter_after) after wire_after meter_after moves keeps
        (keeps_quiet d w now rules now_laws
        (run_state last mid wire_after meter_after) mid_able after quiet mounted files folders)

    module _ (over_so : last.core.outcome ≢ GoesOn)
        (stands : (found : Option Checkpoint) (first : Counts)
        (y : IsDriving s found first (at_place last.core mid wire_after meter_after))
        → Stands s.wire (run_in s found) (trace_in s found) first
        (at_place last.core mid wire_after meter_after).is y.at)
        (come : ComesWaiting s o.core.found o.core.counts (d.view o.core.disk)
        (at_place last.core mid wire_after meter_after)) where
      runs : (r : Result Cores DriveFault)
          → IfOk r (λ core. EndsAt s (at_place last.core mid wire_after meter_after)
          (at_place core after wire_after meter_after))
          → IfOk r (λ core. RunsBy (setting d w job rules) (cut_from specs job)
          (start_of (run_by job rules specs o.found)
          (counts o.others (w.received wire_lent) (w.sum wire_lent)) (d.view o.begun_on))
          (place_at d w core after wire_after meter_after))
      runs (Ok core) end =
          runs_out d w rules specs job now.cut disk_lent disk mid wire_lent wire wire_after meter
          meter_after spent more
          metered_so x o keeps disk_later wire_later last.core over_so come
          (at_place core after wire_after meter_after) end
      runs (Err fault) end = tt

      pub finished_on : (d.tells → (d.view disk_lent).images (d.view disk_lent).seen)
          → (r : Result Cores DriveFault) → IfOk r (λ core. core ≡ last.core)
          → (d.tells → OnOk r (OutputsSettled (length last.keeper.lengths) (d.view after)))
          → ((n : ℕ) → Stops (count (d.faults mid) (d.faults after)) (count n n) r)
          → (now.balance ≡ true
          → StaysBelow s (at_place x.run.core disk wire meter)
          (counts meter_after (w.received wire_after) (w.sum wire_after)))
          → IsOver d w rules specs new
          (lot disk_lent after wire_lent wire_after meter_after (spent + more)) r
      finished_on reads r same settled stops waits =
          let finishes : Stops (count (d.faults mid) (d.faults after))
          (count (w.faults wire_after) (w.faults wire_after)) r = stops (w.faults wire_after) in
          let later : d.faults mid ≤ d.faults after = finishes.disk_later in
          let all : Stops (count (d.faults disk) (d.faults after))
          (count (w.faults wire) (w.faults wire_after)) r =
          stopped_after Cores (count (d.faults mid) (d.faults after))
          (count (w.faults wire_after) (w.faults wire_after))
          (count (d.faults disk) (d.faults after)) (count (w.faults wire) (w.faults wire_after)) r
          disk_later (omega arith) wire_later (omega arith) finishes in
          subst (λ (j : Job). IsOver d w rules specs j
          (lot disk_lent after wire_lent wire_after meter_after (spent + more)) r) (sym new_is)
          (over d w rules specs job now.cut disk_lent disk after wire_lent wire wire_after meter
          meter_after spent more
          metered_so x o all_keeps (omega (arith, disk_later, later)) wire_later laws reads r
          (runs r
          (ends_with s (at_place last.core mid wire_after meter_after) last.core
          (w.queue wire_after) (counts meter_after (w.received wire_after) (w.sum wire_after))
          (d.view mid) (d.view after) last.keeper
          (moves_none s (at_place last.core mid wire_after meter_after)) going over_so stands quiet
          r same settled)) all waits)
