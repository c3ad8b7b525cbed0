-- What a run answers, and what it leaves.
use Rattle.std.proofs.Common.{◌≡◌, ℕ, ◌≤◌, ◌∙◌, ap, subst, arith}
use Rattle.std.specs.Prelude.{Option, Result, Ok, Err, IfOk}
use Rattle.cx_disk.specs.Disk.{View}
use Rattle.cx_chk.specs.declared.checkpoint.Checkpoint.{Checkpoint}
use Rattle.cx_keep.specs.Beginning.{HasLengths, IsStarted, StartMoments}
use Rattle.cx_keep.specs.Tests.{begun}
use Rattle.cx_plan.specs.Setups.{setup_of}
use Rattle.cx_outputs.specs.Names.{output_count}
use Rattle.cx_cut.specs.Faults.{parts_of}
use Rattle.cx_rule.specs.Meter.{raised}
use Rattle.cx_rule.specs.States.{State}
use Rattle.cx_model.specs.Checkpoints.{Continues}
use Rattle.cx_model.specs.Traces.{Trace, Goes}
use Rattle.cx_wire.specs.Received.{counted}
use Rattle.cx_keep.specs.declared.fault.BeginFault.{BeginFault}
use Rattle.law_parts.specs.Beginnings.{Beginning}
use Rattle.law_parts.specs.Totals.{undivided_from}
use Rattle.law_course.specs.Beginnings.{run_from}
use Rattle.cx_core.specs.Cores.{Cores}
use Rattle.cx_run_loop.specs.declared.fault.DriveFault.{DriveFault}
use Rattle.cx_run_loop.specs.declared.fault.DriveFault.TheVariants as faults
use Rattle.cx_run_loop.specs.Drives.{Drive, Drives, AreTold, Comes, HasEnded, LendsScalars, StartsWell, again_in, counts_new, counts_old}
use Rattle.cx_run_loop.specs.Faults.{Stops, StopsStart, Why}
use Rattle.cx_run_loop.specs.Going.{RunLeaves, trace_in}
use Rattle.cx_run_loop.specs.Recuts.{first_cut}
use Rattle.cx_run_loop.specs.Segments.{RunsBy}
use Rattle.cx_run_loop.specs.Sums.{CountsBelow}
use Rattle.cx_run_loop.specs.Laws.{DriveLaws}
use Rattle.cx_run_loop.proofs.StopLaws.{stopped_after}
use Rattle.cx_run_loop.proofs.TurnLaws.{same_beginning}
use Rattle.cx_run_loop.proofs.WholeLaws.{setting, place_behind, has_run, has_ended, leaves_trails, lends, start_at, start_trails}

no_points : (old new more : ℕ) → new ≡ old → new ≤ raised old more
no_points old new more same = omega (arith, same)

no_values : (old new more : ℕ) → new ≡ old → new ≤ counted old more
no_values old new more same = omega (arith, same)

same_found : (a b : Option Checkpoint) (r : Result (Option Checkpoint) BeginFault) → r ≡ Ok a
    → r ≡ Ok b → a ≡ b
same_found a b r one two = cc

-- ---- a start that failed

module _ (d : Drive) (laws : DriveLaws d.wire.tells d.job d.rules) (fault : DriveFault)
    (stops : StopsStart d.job d.disk.tells d.disk.old d.disk.new d.disk.faults fault)
    (wire : d.wire.same) (meter : d.meter.new ≡ d.meter.old) where
  comes_stopped : (one : DriveFault)
      → StopsStart d.job d.disk.tells d.disk.old d.disk.new d.disk.faults one → Comes d (Err one)
  comes_stopped (faults.Recovery fault) why = record {
    refusal = why.refusal;
    began = why.began;
    quiet = why.quiet;
    wire = wire;
    meter = meter;
  }
  comes_stopped faults.Disk why = why
  comes_stopped faults.Wire why = absurd why
  comes_stopped faults.Memory why = tt

  pub refused : (d.disk.tells → StartMoments d.job d.job.recover d.disk.old d.disk.new)
      → d.disk.faults.old ≤ d.disk.faults.new → d.wire.faults.old ≤ d.wire.faults.new
      → d.wire.new.received ≡ d.wire.old.received → Drives d (Err fault)
  refused moments later wire_later same_values = record {
    comes = comes_stopped fault stops;
    ended = λ told well. tt;
    trails = λ told trails. start_trails d laws d.disk.new moments told.0 trails;
    disk_count = later;
    wire_count = wire_later;
    points = omega (arith, meter);
    values = omega (arith, same_values);
    within = λ told found is state goes. record {
      points = no_points d.meter.old d.meter.new _ meter;
      values = no_values d.wire.old.received d.wire.new.received _ same_values;
    };
  }

-- ---- a run that has begun

module _ (d : Drive) (laws : DriveLaws d.wire.tells d.job d.rules) (mid : View)
    (found : Option Checkpoint)
    (reads : d.disk.tells → d.disk.old.images d.disk.old.seen)
    (is_begun : d.disk.tells → begun d.job d.disk.old.seen ≡ Ok found)
    (continues : Continues (setup_of d.job) d.rules)
    (lengths : HasLengths (output_count (setup_of d.job)) found)
    (started : d.disk.tells → IsStarted d.job d.job.recover found d.disk.old mid) where
  comes_run : (r : Result Cores DriveFault)
      → IfOk r (λ core. RunsBy (setting d) (again_in d) (start_at d found mid)
      (place_behind d core))
      → Why d.disk.faults d.wire.faults r → Comes d r
  comes_run (Ok core) runs why = has_run d laws mid found reads is_begun core runs
  comes_run (Err (faults.Recovery fault)) runs why = absurd why
  comes_run (Err faults.Disk) runs why = why
  comes_run (Err faults.Wire) runs why = why
  comes_run (Err faults.Memory) runs why = why

  ended_run : (r : Result Cores DriveFault)
      → IfOk r (λ core. RunsBy (setting d) (again_in d) (start_at d found mid)
      (place_behind d core))
      → AreTold d → StartsWell d → IfOk r (HasEnded d)
  ended_run (Ok core) runs told well =
      has_ended d laws mid found reads is_begun core runs continues lengths started told well
  ended_run (Err fault) runs told well = tt

  pub drives : (r : Result Cores DriveFault)
      → IfOk r (λ core. RunsBy (setting d) (again_in d) (start_at d found mid)
      (place_behind d core))
      → (d.disk.tells → StartMoments d.job d.job.recover d.disk.old mid)
      → RunLeaves (setting d) found mid d.disk.new → (begun_at : ℕ)
      → d.disk.faults.old ≤ begun_at
      → Stops (record { old = begun_at; new = d.disk.faults.new }) d.wire.faults r
      → d.meter.old ≤ d.meter.new → d.wire.old.received ≤ d.wire.new.received
      → (d.wire.tells → (state : State) → (trace_in (setting d) found).outcome ≡ Goes state
      → CountsBelow (setup_of d.job) (again_in d)
      (parts_of d.job.shape (first_cut d.specs d.job found)) (trace_in (setting d) found).entries
      (counts_old d) (counts_new d)) → Drives d r
  drives r runs moments leaves begun_at later stops points values within =
      let all : Stops d.disk.faults d.wire.faults r =
      stopped_after Cores (record { old = begun_at; new = d.disk.faults.new })
      d.wire.faults d.disk.faults d.wire.faults r later (omega arith) (omega arith)
      (omega arith) stops in
      record {
        comes = comes_run r runs all.why;
        ended = ended_run r runs;
        trails = leaves_trails d laws mid found reads is_begun lengths started moments leaves;
        disk_count = all.disk_later;
        wire_count = all.wire_later;
        points = points;
        values = values;
        within = λ told other is state goes.
            let one : found ≡ other =
            same_found found other (begun d.job d.disk.old.seen) (is_begun told.0) is in
            let same : trace_in (setting d) found ≡ run_from (setup_of d.job) d.rules other =
            ap (λ (b : Beginning). undivided_from (setup_of d.job) d.rules b)
            (same_beginning (setup_of d.job) found)
            ∙ ap (λ (f : Option Checkpoint). run_from (setup_of d.job) d.rules f)
            one in
            subst (λ (f : Option Checkpoint). CountsBelow (setup_of d.job) (again_in d)
            (parts_of d.job.shape (first_cut d.specs d.job f))
            (run_from (setup_of d.job) d.rules other).entries (counts_old d) (counts_new d)) one
            (subst (λ (u : Trace). CountsBelow (setup_of d.job) (again_in d)
            (parts_of d.job.shape (first_cut d.specs d.job found)) u.entries (counts_old d)
            (counts_new d)) same
            (within told.1 state (ap (λ (u : Trace). u.outcome) same ∙ goes)));
      }

  pub lends_scalars : (r : Result Cores DriveFault)
      → IfOk r (λ core. RunsBy (setting d) (again_in d) (start_at d found mid)
      (place_behind d core))
      → IfOk r (LendsScalars d.job)
  lends_scalars (Ok core) runs = lends d laws mid found reads is_begun core runs
  lends_scalars (Err fault) runs = tt
