-- From turn to turn of one run, beside others that count on the same meter.
use Rattle.std.proofs.Common.{◌≡◌, ◌≢◌, ◌≤◌, ◌+◌, ℕ, Bool, true, false, List, refl, sym, ◌∙◌, ap, subst, arith}
use Rattle.std.specs.Prelude.{IsTrue, Some, Result, Ok, Err, IfOk, OnOk}
use Rattle.cx_cut.specs.Cuts.{Parts}
use Rattle.cx_cut.specs.Faults.{parts_of}
use Rattle.cx_plan.specs.declared.job.Cuts.{Cuts}
use Rattle.cx_plan.specs.declared.job.Job.{Job}
use Rattle.cx_plan.specs.Setups.{setup_of}
use Rattle.cx_rule.specs.Meter.{raised}
use Rattle.cx_rule.specs.Routine.{Rule}
use Rattle.cx_rule.specs.States.{State}
use Rattle.cx_rule.specs.declared.spec.Spec.{Spec}
use Rattle.cx_model.specs.Traces.{Goes}
use Rattle.cx_model.proofs.CheckpointLaws.{run-continues}
use Rattle.cx_disk.specs.declared.disk.Disk.{Ghosts as DiskGhosts}
use Rattle.cx_disk.proofs.Moments.{joins}
use Rattle.cx_wire.specs.Received.{counted}
use Rattle.cx_wire.specs.declared.wire.Wire.{Ghosts as WireGhosts}
use Rattle.cx_chk.specs.declared.checkpoint.Checkpoint.{Checkpoint}
use Rattle.cx_core.specs.declared.answers.Outcome.TheVariants.{Going as GoesOn}
use Rattle.cx_core.specs.Cores.{Cores}
use Rattle.cx_core.specs.Steps.{Counts, counts}
use Rattle.cx_run_loop.specs.Advances.{Keeps, run_state}
use Rattle.cx_run_loop.specs.Cores.{run_by, start_of}
use Rattle.cx_run_loop.specs.Drives.{Drive, driven_by}
use Rattle.cx_run_loop.specs.Faults.{Stops}
use Rattle.cx_run_loop.specs.Going.{EndsAt, IsImageOf, Place, RunLeaves, Setting, kept_in, place_at, setting, trace_in}
use Rattle.cx_run_loop.specs.Laws.{DriveLaws}
use Rattle.cx_run_loop.specs.Recuts.{cut_from, next_cut, with_cut}
use Rattle.cx_run_loop.specs.Segments.{RunsBy, SegmentTo, Start, entries_at, parts_at}
use Rattle.cx_run_loop.specs.Sums.{AreUnsaved, CountsBelow}
use Rattle.cx_run_loop.specs.UnderWay.{Runs}
use Rattle.cx_run_loop.specs.Waiting.{StaysBelow}
use Rattle.cx_run_loop.specs.declared.fault.DriveFault.{DriveFault}
use Rattle.cx_run_loop.specs.declared.turn.Advance.{Advance}
use Rattle.cx_run_loop.proofs.CoreLaws.{CountAsOne, one_cut, one_unsaved, runs_by, segment_more, segment_one}
use Rattle.cx_run_loop.proofs.CoresEnd.{one_again}
use Rattle.cx_run_loop.proofs.DriveLaws.{drives, lends_scalars}
use Rattle.cx_run_loop.proofs.GatherCounts.{works_unsaved}
use Rattle.cx_run_loop.proofs.Recast.{runs_cast, segment_back, segment_cast}
use Rattle.cx_run_loop.proofs.StopLaws.{count, stopped_after, stopped_first}
use Rattle.cx_run_loop.proofs.SumLaws.{sums_add}
use Rattle.cx_run_loop.proofs.UnderWayLaws.{ends, leaves_on}
use Rattle.cx_run_batch.specs.Stages.{ComesWaiting, IsOnWay, IsOver, begins_at, lot}
use Rattle.cx_run_batch.specs.declared.stage.UnderWay.{UnderWay}
use Rattle.cx_run_batch.proofs.ComeLaws.{IsGathered}

clash : true ≡ false → ⊥
clash e = cc

module _ {D W : Type 0} (d : DiskGhosts D) (w : WireGhosts W) (rules : List Rule)
    (specs : List Spec) (job : Job) (cut : Cuts) where
  -- of the job in its own cut, and in the one that it has
  abbrev own : Setting
  own = setting d w job rules

  abbrev s : Setting
  s = setting d w (with_cut job cut) rules

  abbrev again : State → Parts
  again = cut_from specs job

  abbrev at_place : Cores → D → W → ℕ → Place s
  at_place core disk wire meter = place_at d w core disk wire meter

  module _ (disk_lent disk after : D) (wire_lent wire wire_after : W) (meter meter_after : ℕ)
      (spent more : ℕ) (metered_so : meter_after ≡ meter + more) (x : UnderWay)
      (o : IsOnWay d w rules specs job cut (lot disk_lent disk wire_lent wire meter spent) x)
      (keeps : Keeps d w (with_cut job cut) rules (run_state x.run disk wire meter) after
      wire_after meter_after)
      (disk_later : d.faults disk ≤ d.faults after)
      (wire_later : w.faults wire ≤ w.faults wire_after) where
    abbrev was : Place s
    was = at_place x.run.core disk wire meter

    abbrev counts_after : Counts
    counts_after = counts meter_after (w.received wire_after) (w.sum wire_after)

    -- where the run began, and where its core did
    abbrev start : Start
    start = start_of (run_by job rules specs o.found)
        (counts o.others (w.received wire_lent) (w.sum wire_lent)) (d.view o.begun_on)

    abbrev here : Start
    here = begins_at d cut o.core

    values_on : w.received wire_lent ≤ w.received wire_after
    values_on =
        let a : w.received wire_lent ≤ w.received wire = o.values in
        let b : w.received wire ≤ w.received wire_after = keeps.values in
        omega (arith, a, b)

    spent_on : o.others + (spent + more) ≡ meter_after
    spent_on =
        let a : o.others + spent ≡ meter = o.spent in
        omega (arith, a, metered_so)

    faults_on : d.faults o.begun_on ≤ d.faults after
    faults_on =
        let a : d.faults o.begun_on ≤ d.faults disk = o.disk_later in
        omega (arith, a, disk_later)

    wire_faults_on : w.faults wire_lent ≤ w.faults wire_after
    wire_faults_on =
        let a : w.faults wire_lent ≤ w.faults wire = o.wire_later in
        omega (arith, a, wire_later)

    -- ---- it goes on with the same core

    pub on_way : (y : UnderWay) → y.next ≡ x.next
        → ComesWaiting s o.core.found o.core.counts (d.view o.core.disk)
        (at_place y.run.core after wire_after meter_after)
        → IsOnWay d w rules specs job cut
        (lot disk_lent after wire_lent wire_after meter_after (spent + more)) y
    on_way y same comes = record {
      found = o.found;
      begun_on = o.begun_on;
      others = o.others;
      spent = spent_on;
      found_is = o.found_is;
      started = o.started;
      lengths = o.lengths;
      moments = o.moments;
      core = o.core;
      segment = o.segment;
      next_is = same ∙ o.next_is;
      comes = comes;
      plain = o.plain;
      folders = keeps.folders ∙ o.folders;
      begun_later = o.begun_later;
      disk_later = faults_on;
      wire_later = wire_faults_on;
      values = values_on;
    }

    -- ---- it goes on with another core

    module _ (mid : Runs) (laws : DriveLaws (IsTrue w.tells) (with_cut job cut) rules)
        (g : IsGathered s o.core.found o.core.counts (d.view o.core.disk)
        (at_place mid.core after wire_after meter_after))
        (balance : job.balance ≡ true) where
      abbrev c : Checkpoint
      c = mid.core.buffers.state

      abbrev next : Cuts
      next = next_cut specs job c

      -- where it begins
      abbrev anew_at : Start
      anew_at =
          record { cut = next; found = Some c; counts = counts_after; view = d.view after }

      segment_on : SegmentTo own again start anew_at
      segment_on =
          segment_more own again start here anew_at o.segment
          (segment_cast own cut again here anew_at
          (segment_one s laws (sums_add (setup_of job)) specs job refl refl o.core.found
          o.core.counts (d.view o.core.disk) (at_place mid.core after wire_after meter_after)
          g.come g.gathered))

      abbrev by_next : Setting
      by_next = setting d w (with_cut job next) rules

      pub on_way_anew : (y : UnderWay) → y.next ≡ c.iteration + 1
          → ComesWaiting by_next (Some c) counts_after (d.view after)
          (place_at d w y.run.core after wire_after meter_after)
          → IsOnWay d w rules specs job next
          (lot disk_lent after wire_lent wire_after meter_after (spent + more)) y
      on_way_anew y next_is comes = record {
        found = o.found;
        begun_on = o.begun_on;
        others = o.others;
        spent = spent_on;
        found_is = o.found_is;
        started = o.started;
        lengths = o.lengths;
        moments = o.moments;
        core = record { found = Some c; counts = counts_after; disk = after };
        segment = segment_on;
        next_is = next_is;
        comes = comes;
        plain = λ unbalanced. absurd (clash (sym balance ∙ unbalanced));
        folders = keeps.folders ∙ o.folders;
        begun_later = o.begun_later;
        disk_later = faults_on;
        wire_later = wire_faults_on;
        values = values_on;
      }

    -- ---- it is over

    -- with one cut the entries of its core are counted by it
    plain_counts : job.balance ≡ false → CountAsOne s again here
    plain_counts unbalanced =
        subst (λ (f : State → Parts). CountAsOne s f here)
        (sym (one_again specs job unbalanced
        ∙ ap {B = State → Parts} (λ (u : Cuts) (state : State). parts_of job.shape u)
        (sym (o.plain unbalanced))))
        (one_cut s here (sums_add (setup_of job)))

    -- no more was counted than the run counts in all
    below : (job.balance ≡ true → StaysBelow s was counts_after) → IsTrue w.tells → (last : State)
        → (trace_in own o.found).outcome ≡ Goes last
        → CountsBelow (setup_of job) again (parts_at own start) (entries_at own start)
        start.counts counts_after
    below waits tells last goes =
        (o.segment.counts tells last goes).below counts_after (by job.balance refl)
      where
        goes_here : (trace_in s o.core.found).outcome ≡ Goes last
        goes_here = o.segment.outcome tells ∙ goes

        by : (b : Bool) → job.balance ≡ b
            → CountsBelow (setup_of job) again (parts_at s here) (entries_at s here)
            here.counts counts_after
        by true same =
            waits same tells o.core.found o.core.counts o.comes.come.there (o.comes.waits same)
            last goes_here again
        by false unbalanced =
            let h = keeps.within tells o.core.found o.core.counts o.comes.come.there last
            goes_here in
            let one = plain_counts unbalanced in
            record {
              points = subst (λ (n : ℕ). meter_after ≤ raised here.counts.points n)
                  (sym one.points) h.points;
              values = subst (λ (n : ℕ). w.received wire_after ≤ counted here.counts.values n)
                  (sym one.values) h.values;
            }

    -- each moment has left an image of the run
    leaves : RunLeaves own o.found (d.view o.begun_on) (d.view after)
    leaves td tw y =
        let over = o.segment.goes_over td tw y in
        joins (IsImageOf (kept_in own o.found)) over.moments
        (leaves_on s o.core.found o.core.counts (d.view o.core.disk) was o.comes.come
        (d.view after) keeps.moments td tw over.driven) over.images

    abbrev drive : Drive
    drive = driven_by job rules specs d w disk_lent after wire_lent wire_after o.others meter_after

    module _ (laws : DriveLaws (IsTrue w.tells) job rules)
        (reads : d.tells → (d.view disk_lent).images (d.view disk_lent).seen)
        (r : Result Cores DriveFault)
        (runs : IfOk r (λ core. RunsBy own again start
        (place_at d w core after wire_after meter_after)))
        (stops : Stops (count (d.faults disk) (d.faults after))
        (count (w.faults wire) (w.faults wire_after)) r)
        (waits : job.balance ≡ true → StaysBelow s was counts_after) where
      all_stops : Stops (count (d.faults o.begun_on) (d.faults after))
          (count (w.faults wire_lent) (w.faults wire_after)) r
      all_stops =
          let a : d.faults o.begun_on ≤ d.faults disk = o.disk_later in
          let b : w.faults wire_lent ≤ w.faults wire = o.wire_later in
          stopped_after Cores (count (d.faults disk) (d.faults after))
          (count (w.faults wire) (w.faults wire_after))
          (count (d.faults o.begun_on) (d.faults after))
          (count (w.faults wire_lent) (w.faults wire_after)) r (omega (arith, a)) (omega arith)
          (omega (arith, b)) (omega arith) stops

      pub over : IsOver d w rules specs job
          (lot disk_lent after wire_lent wire_after meter_after (spent + more)) r
      over =
          let all : o.others + (spent + more) ≡ meter_after = spent_on in
          record {
            meter = record { old = o.others; new = meter_after };
            spent = all;
            within = omega arith;
            drives = drives drive laws (d.view o.begun_on) o.found reads o.found_is
                (run-continues (setup_of job) rules) o.lengths o.started r runs o.moments leaves
                (d.faults o.begun_on) o.begun_later all_stops (omega (arith, all)) values_on
                (below waits);
            folders = on_ok r (keeps.folders ∙ o.folders);
            scalars = lends_scalars drive laws (d.view o.begun_on) o.found reads o.found_is
                (run-continues (setup_of job) rules) o.lengths o.started r runs;
          }
        where
          on_ok : {P : Type 0} (q : Result Cores DriveFault) → P → OnOk q P
          on_ok (Ok core) p = p
          on_ok (Err fault) p = tt

    -- a run that has stopped
    pub stopped : DriveLaws (IsTrue w.tells) job rules
        → (d.tells → (d.view disk_lent).images (d.view disk_lent).seen) → (fault : DriveFault)
        → Stops {A = Advance} (count (d.faults disk) (d.faults after))
        (count (w.faults wire) (w.faults wire_after)) (Err fault)
        → (job.balance ≡ true → StaysBelow s was counts_after)
        → IsOver d w rules specs job
        (lot disk_lent after wire_lent wire_after meter_after (spent + more)) (Err fault)
    stopped laws reads fault stops waits =
        over laws reads (Err fault) tt
        (stopped_first Advance Cores (count (d.faults disk) (d.faults after))
        (count (w.faults wire) (w.faults wire_after)) (count (d.faults disk) (d.faults after))
        (count (w.faults wire) (w.faults wire_after)) fault refl (omega arith) refl (omega arith)
        stops) waits

    -- ---- the last core's end is that of the run

    module _ (one : Cores) (over_so : one.outcome ≢ GoesOn)
        (come : ComesWaiting s o.core.found o.core.counts (d.view o.core.disk)
        (at_place one after wire_after meter_after)) where
      abbrev last_at : Place s
      last_at = at_place one after wire_after meter_after

      -- balanced, it has saved no checkpoint
      unsaved : job.balance ≡ true → IsTrue w.tells → AreUnsaved (entries_at s here)
      unsaved same tells =
          works_unsaved (entries_at s here)
          (subst AreUnsaved (sym (come.come.there.over tells over_so))
          ((come.waits same).unsaved tells))

      counts_once : IsTrue w.tells → CountAsOne s again here
      counts_once tells = by job.balance refl
        where
          by : (b : Bool) → job.balance ≡ b → CountAsOne s again here
          by true same = one_unsaved s again here (unsaved same tells)
          by false unbalanced = plain_counts unbalanced

      pub runs_out : (is : Place s) → EndsAt s last_at is
          → RunsBy own again start (record { is = is.is; view = is.view })
      runs_out is end =
          runs_cast own cut again start is
          (runs_by s again start here (segment_back own cut again start here o.segment) refl is
          (ends s o.core.found o.core.counts (d.view o.core.disk) last_at come.come is end)
          counts_once)
