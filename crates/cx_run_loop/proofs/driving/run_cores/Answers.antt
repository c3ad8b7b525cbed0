use Rattle.std.proofs.Common.{◌≤◌, ◌<◌, ◌+◌, ◌-◌, ℕ, List, map, arith, inl, refl, sym, ◌∙◌, ap, subst}
use Rattle.std.proofs.lemmas.Result.{err_from_is_err_and}
use Rattle.std.specs.Prelude.{Bool, Err}
use Rattle.cx_plan.specs.declared.job.Job.{Job}
use Rattle.cx_plan.specs.Setups.{setup_of}
use Rattle.cx_rule.specs.Routine.{Rule}
use Rattle.cx_rule.specs.declared.spec.Spec.{Spec}
use Rattle.cx_chk.specs.declared.checkpoint.Checkpoint.{Checkpoint}
use Rattle.cx_run_loop.specs.Advances.{run_state}
use Rattle.cx_run_loop.specs.Cores.{StopsAt, run_by}
use Rattle.cx_run_loop.specs.Recuts.{with_cut}
use Rattle.cx_run_loop.specs.Sums.{SumsAdd}
use Rattle.cx_run_loop.proofs.AdvanceLaws.{keeps_more, keeps_quiet}
use Rattle.cx_run_loop.proofs.CoresBegin.{between_begun, few_iterations, runs_none}
use Rattle.cx_run_loop.proofs.CoresGo.{AreBetween, between_on}
use Rattle.cx_run_loop.proofs.CoresOver.{able_by, begins_anew, cuts_own, fits_own, leads_out_by, nearer_last, ready_own, runs_on_by, runs_out_by, short_own, stops_after_by, stops_here_by}
use Rattle.cx_run_loop.proofs.StopLaws.{count, stopped_after, stopped_first}
use Rattle.cx_run_loop.proofs.TurnLaws.{on_err_fact}
use Rattle.cx_run_loop.proofs.driving.run_cores.Goals as goal

pub next_after-next-requires : goal.next_after-next-requires
next_after-next-requires g c =
    record {
      few = few_iterations c.args.job.now c.args.found c.requires.ready.whole c.requires.holds;
    }

pub cores-init : goal.cores-init
cores-init g c =
    let rules : List Rule =
    map (λ r. (goal.Routine-dyn g (r.vtable, r.value)).rule r.value) c.args.routines.now in
    let specs : List Spec =
    map (λ r. (goal.Routine-dyn g (r.vtable, r.value)).spec_of r.value) c.args.routines.now in
    record {
      job = c.in_ok-run.ensures.job;
      ready = c.in_ok-run.ensures.ready;
      routines = c.in_ok-run.ensures.routines;
      between = subst (λ (n : ℕ). AreBetween g.D.Disk g.W.Wire g.T.Turns
          (run_by c.args.job.now rules specs c.args.found) c.args.disk.now c.args.wire.now
          c.args.meter.now c.args.turns.now c.begin_cores.new.job.cut n
          (run_state c.in_ok-run.run' c.args.disk.now c.args.wire.now c.args.meter.now)
          c.args.turns.now) (sym c.next_after-next.ensures)
          (between_begun g.D.Disk g.W.Wire g.T.Turns c.args.disk.now c.args.wire.now
          c.args.meter.now c.args.turns.now c.args.job.now rules specs c.args.run
          c.in_ok-run.run' c.args.found c.begin_cores.new.job c.in_ok-run.ensures.job
          c.in_ok-run.ensures.cut c.in_ok-run.ensures.begins c.requires.begun c.requires.able
          c.requires.going c.requires.lengths c.requires.empty
          (g.met.W.Wire.sum_fits c.args.wire.now) (c.cores_wait.ensures g.W.Wire.tells rules));
      begun = refl;
      disk_later = omega arith;
      wire_later = omega arith;
    }

pub run_core-requires-clause-short : goal.run_core-requires-clause-short
run_core-requires-clause-short g c =
    short_own c.args.job.now c.cores.job c.cores.job.cut c.cores.invariant.job c.requires.short

pub run_core-requires-clause-able : goal.run_core-requires-clause-able
run_core-requires-clause-able g c =
    let rules : List Rule =
    map (λ r. (goal.Routine-dyn g (r.vtable, r.value)).rule r.value) c.args.routines.now in
    let specs : List Spec =
    map (λ r. (goal.Routine-dyn g (r.vtable, r.value)).spec_of r.value) c.args.routines.now in
    let was = run_state c.cores.run c.cores.disk c.cores.wire c.cores.meter in
    able_by g.D.Disk g.W.Wire g.T.Turns
    (run_by c.args.job.now rules specs c.args.found) c.args.disk.now c.args.wire.now
    c.args.meter.now c.args.turns.now c.cores.job.cut c.cores.next
    was c.cores.turns c.cores.invariant.between c.cores.job c.cores.invariant.job

pub run_core-requires-clause-outcome : goal.run_core-requires-clause-outcome
run_core-requires-clause-outcome g c =
    c.cores.invariant.between.going

pub cut_anew-requires-clause-ready : goal.cut_anew-requires-clause-ready
cut_anew-requires-clause-ready g c =
    ready_own c.args.job.now c.cores.job c.args.own.now c.cores.job.cut c.requires.own
    c.cores.invariant.job c.requires.ready

pub cut_anew-requires-clause-routines : goal.cut_anew-requires-clause-routines
cut_anew-requires-clause-routines g c =
    fits_own _ c.args.job.now c.cores.job c.args.own.now c.cores.job.cut c.requires.own
    c.cores.invariant.job c.requires.routines

pub cut_anew-requires-clause-cut : goal.cut_anew-requires-clause-cut
cut_anew-requires-clause-cut g c =
    cuts_own c.args.job.now c.cores.job c.args.own.now c.cores.job.cut c.requires.own
    c.cores.invariant.job c.requires.cut

pub cut_anew-requires-clause-state : goal.cut_anew-requires-clause-state
cut_anew-requires-clause-state g c =
    begins_anew c.cores.job c.cores.next c.run_core.new.run.core
    (subst (λ (z : Bool). StopsAt c.cores.job c.cores.next c.run_core.new.run.core z)
    c.if-branch.true c.in_ok-run_core.ensures.runs.stops)

pub cores-preserved : goal.cores-preserved
cores-preserved g c =
    let rules : List Rule =
    map (λ r. (goal.Routine-dyn g (r.vtable, r.value)).rule r.value) c.args.routines.now in
    let specs : List Spec =
    map (λ r. (goal.Routine-dyn g (r.vtable, r.value)).spec_of r.value) c.args.routines.now in
    let was = run_state c.cores.run c.cores.disk c.cores.wire c.cores.meter in
    let mid = run_state c.run_core.new.run c.run_core.new.disk c.run_core.new.wire
    c.run_core.new.meter in
    let a : g.D.Disk.faults c.args.disk.now ≤ g.D.Disk.faults c.cores.disk =
    c.cores.invariant.disk_later in
    let b : g.D.Disk.faults c.cores.disk ≤ g.D.Disk.faults c.run_core.new.disk =
    c.in_ok-run_core.ensures.stops.disk_later in
    let e : g.W.Wire.faults c.args.wire.now ≤ g.W.Wire.faults c.cores.wire =
    c.cores.invariant.wire_later in
    let f : g.W.Wire.faults c.cores.wire ≤ g.W.Wire.faults c.run_core.new.wire =
    c.in_ok-run_core.ensures.stops.wire_later in
    record {
      job = c.in_ok-run-2.ensures.job
          ∙ ap (λ (j : Job). with_cut j c.cut_anew.new.job.cut) c.cores.invariant.job;
      ready = c.in_ok-run-2.ensures.begins.ready;
      routines = c.in_ok-run-2.ensures.begins.routines;
      between = subst (λ (k : Checkpoint). AreBetween g.D.Disk g.W.Wire g.T.Turns
          (run_by c.args.job.now rules specs c.args.found) c.args.disk.now c.args.wire.now
          c.args.meter.now c.args.turns.now c.cut_anew.new.job.cut (k.iteration + 1)
          (run_state c.in_ok-run-2.run' c.run_core.new.disk c.run_core.new.wire
          c.run_core.new.meter) c.run_core.new.turns) (sym c.saved.ensures)
          (between_on g.D.Disk g.W.Wire g.T.Turns
          (run_by c.args.job.now rules specs c.args.found) c.args.disk.now c.args.wire.now
          c.args.meter.now c.args.turns.now c.args.own.now c.cores.job.cut c.cores.next was mid
          c.cores.turns c.run_core.new.turns c.cores.invariant.between c.requires.own c.cores.job
          c.cores.invariant.job (c.drive_laws-in-cores.ensures g.W.Wire.tells rules)
          (subst (λ (j : Job). SumsAdd (setup_of j)) (sym c.cores.invariant.job)
          c.sums_add.ensures) c.in_ok-run_core.field-0 c.if-branch.true
          c.in_ok-run_core.ensures.runs
          c.in_ok-run_core.ensures.keeps c.cut_anew.new.job c.in_ok-run-2.run'
          c.in_ok-run-2.ensures.job
          c.in_ok-run-2.ensures.begins (g.met.W.Wire.sum_fits c.run_core.new.wire)
          (c.cores_wait-in-cores.ensures g.W.Wire.tells rules));
      begun = c.in_ok-run_core.ensures.begun ∙ c.cores.invariant.begun;
      disk_later = omega arith;
      wire_later = omega arith;
    }

pub cores-smaller : goal.cores-smaller
cores-smaller g c =
    let can = (subst (λ (z : Bool). StopsAt c.cores.job c.cores.next c.run_core.new.run.core z)
    c.if-branch.true c.in_ok-run_core.ensures.runs.stops) in
    subst (λ (k : Checkpoint).
    c.args.job.now.itlast + 1 - (k.iteration + 1) < c.args.job.now.itlast + 1 - c.cores.next)
    (sym c.saved.ensures)
    (nearer_last c.cores.next c.run_core.new.run.core.buffers.state.iteration
    c.args.job.now.itlast can.least
    (subst (λ (j : Job). c.run_core.new.run.core.buffers.state.iteration ≤ j.itlast)
    c.cores.invariant.job can.most))

pub returns-in_err-run-clause-runs : goal.returns-in_err-run-clause-runs
returns-in_err-run-clause-runs g c =
    runs_none g.D.Disk g.W.Wire (run_by c.args.job.now _ _ c.args.found) c.args.run
    c.args.disk.now c.args.wire.now c.args.meter.now c.requires.able

pub returns-in_err-run-clause-picked : goal.returns-in_err-run-clause-picked
returns-in_err-run-clause-picked g c =
    on_err_fact _ c.from_residual.result (inl refl)

pub returns-in_err-run_core-clause-runs : goal.returns-in_err-run_core-clause-runs
returns-in_err-run_core-clause-runs g c =
    let rules : List Rule =
    map (λ r. (goal.Routine-dyn g (r.vtable, r.value)).rule r.value) c.args.routines.now in
    let specs : List Spec =
    map (λ r. (goal.Routine-dyn g (r.vtable, r.value)).spec_of r.value) c.args.routines.now in
    let was = run_state c.cores.run c.cores.disk c.cores.wire c.cores.meter in
    runs_on_by g.D.Disk g.W.Wire g.T.Turns
    (run_by c.args.job.now rules specs c.args.found) c.args.disk.now c.args.wire.now
    c.args.meter.now c.args.turns.now c.cores.job.cut c.cores.next
    was c.cores.turns c.cores.invariant.between c.cores.job c.cores.invariant.job
    c.sums_add.ensures c.run_core.new.disk c.run_core.new.wire c.run_core.new.meter
    c.in_err-run_core.ensures.keeps c.in_err-run_core.ensures.below

pub returns-in_err-run_core-clause-picked : goal.returns-in_err-run_core-clause-picked
returns-in_err-run_core-clause-picked g c =
    let rules : List Rule =
    map (λ r. (goal.Routine-dyn g (r.vtable, r.value)).rule r.value) c.args.routines.now in
    let specs : List Spec =
    map (λ r. (goal.Routine-dyn g (r.vtable, r.value)).spec_of r.value) c.args.routines.now in
    let was = run_state c.cores.run c.cores.disk c.cores.wire c.cores.meter in
    on_err_fact _ c.from_residual-in_err-run_core.result (stops_here_by g.D.Disk g.W.Wire g.T.Turns
    (run_by c.args.job.now rules specs c.args.found) c.args.disk.now c.args.wire.now
    c.args.meter.now c.args.turns.now c.cores.job.cut c.cores.next
    was c.cores.turns c.cores.invariant.between c.cores.job c.cores.invariant.job
    c.run_core.new.turns c.in_err-run_core.ensures.picked)

pub returns-in_err-run-2-clause-runs : goal.returns-in_err-run-2-clause-runs
returns-in_err-run-2-clause-runs g c =
    let rules : List Rule =
    map (λ r. (goal.Routine-dyn g (r.vtable, r.value)).rule r.value) c.args.routines.now in
    let specs : List Spec =
    map (λ r. (goal.Routine-dyn g (r.vtable, r.value)).spec_of r.value) c.args.routines.now in
    let was = run_state c.cores.run c.cores.disk c.cores.wire c.cores.meter in
    runs_on_by g.D.Disk g.W.Wire g.T.Turns
    (run_by c.args.job.now rules specs c.args.found) c.args.disk.now c.args.wire.now
    c.args.meter.now c.args.turns.now c.cores.job.cut c.cores.next
    was c.cores.turns c.cores.invariant.between c.cores.job c.cores.invariant.job
    c.sums_add.ensures c.run_core.new.disk c.run_core.new.wire c.run_core.new.meter
    c.in_ok-run_core.ensures.keeps c.in_ok-run_core.ensures.below

pub returns-in_err-run-2-clause-picked : goal.returns-in_err-run-2-clause-picked
returns-in_err-run-2-clause-picked g c =
    let rules : List Rule =
    map (λ r. (goal.Routine-dyn g (r.vtable, r.value)).rule r.value) c.args.routines.now in
    let specs : List Spec =
    map (λ r. (goal.Routine-dyn g (r.vtable, r.value)).spec_of r.value) c.args.routines.now in
    let was = run_state c.cores.run c.cores.disk c.cores.wire c.cores.meter in
    let mid = run_state c.run_core.new.run c.run_core.new.disk c.run_core.new.wire
    c.run_core.new.meter in
    on_err_fact _ c.from_residual-in_err-run-2.result (stops_after_by g.D.Disk g.W.Wire g.T.Turns
    (run_by c.args.job.now rules specs c.args.found) c.args.disk.now c.args.wire.now
    c.args.meter.now c.args.turns.now c.cores.job.cut c.cores.next
    was c.cores.turns c.cores.invariant.between c.cores.job c.cores.invariant.job
    mid c.run_core.new.turns c.in_ok-run_core.field-0 c.in_ok-run_core.ensures.runs)

pub returns-clause-ends : goal.returns-clause-ends
returns-clause-ends g c =
    let rules : List Rule =
    map (λ r. (goal.Routine-dyn g (r.vtable, r.value)).rule r.value) c.args.routines.now in
    let specs : List Spec =
    map (λ r. (goal.Routine-dyn g (r.vtable, r.value)).spec_of r.value) c.args.routines.now in
    let was = run_state c.cores.run c.cores.disk c.cores.wire c.cores.meter in
    let mid = run_state c.run_core.new.run c.run_core.new.disk c.run_core.new.wire
    c.run_core.new.meter in
    runs_out_by g.D.Disk g.W.Wire g.T.Turns
    (run_by c.args.job.now rules specs c.args.found) c.args.disk.now c.args.wire.now
    c.args.meter.now c.args.turns.now c.cores.job.cut c.cores.next
    was c.cores.turns c.cores.invariant.between c.cores.job c.cores.invariant.job
    mid c.run_core.new.turns c.in_ok-run_core.field-0 c.in_ok-run_core.ensures.runs
    c.if-branch.false
    c.in_ok-run_core.ensures.keeps c.sums_add.ensures (c.core_stands.ensures g.W.Wire.tells rules)
    c.finish.new.disk c.finish.ensures.quiet c.finish.result c.finish.ensures.core
    c.finish.ensures.settled

pub returns-clause-runs : goal.returns-clause-runs
returns-clause-runs g c =
    let rules : List Rule =
    map (λ r. (goal.Routine-dyn g (r.vtable, r.value)).rule r.value) c.args.routines.now in
    let specs : List Spec =
    map (λ r. (goal.Routine-dyn g (r.vtable, r.value)).spec_of r.value) c.args.routines.now in
    let was = run_state c.cores.run c.cores.disk c.cores.wire c.cores.meter in
    let mid = run_state c.run_core.new.run c.run_core.new.disk c.run_core.new.wire
    c.run_core.new.meter in
    runs_on_by g.D.Disk g.W.Wire g.T.Turns
    (run_by c.args.job.now rules specs c.args.found) c.args.disk.now c.args.wire.now
    c.args.meter.now c.args.turns.now c.cores.job.cut c.cores.next
    was c.cores.turns c.cores.invariant.between c.cores.job c.cores.invariant.job
    c.sums_add.ensures c.finish.new.disk c.run_core.new.wire c.run_core.new.meter
    (keeps_more g.D.Disk g.W.Wire c.cores.job rules was mid c.finish.new.disk c.run_core.new.wire
    c.run_core.new.meter c.in_ok-run_core.ensures.runs.moves c.in_ok-run_core.ensures.keeps
    (keeps_quiet g.D.Disk g.W.Wire c.cores.job rules
    (c.drive_laws-2.ensures g.W.Wire.tells rules) mid c.in_ok-run_core.ensures.runs.able
    c.finish.new.disk
    c.finish.ensures.quiet c.finish.ensures.mounted c.finish.ensures.files
    c.finish.ensures.folders))
    c.in_ok-run_core.ensures.below

pub returns-clause-turns : goal.returns-clause-turns
returns-clause-turns g c =
    let rules : List Rule =
    map (λ r. (goal.Routine-dyn g (r.vtable, r.value)).rule r.value) c.args.routines.now in
    let specs : List Spec =
    map (λ r. (goal.Routine-dyn g (r.vtable, r.value)).spec_of r.value) c.args.routines.now in
    let was = run_state c.cores.run c.cores.disk c.cores.wire c.cores.meter in
    let mid = run_state c.run_core.new.run c.run_core.new.disk c.run_core.new.wire
    c.run_core.new.meter in
    leads_out_by g.D.Disk g.W.Wire g.T.Turns
    (run_by c.args.job.now rules specs c.args.found) c.args.disk.now c.args.wire.now
    c.args.meter.now c.args.turns.now c.cores.job.cut c.cores.next
    was c.cores.turns c.cores.invariant.between c.cores.job c.cores.invariant.job
    mid c.run_core.new.turns c.in_ok-run_core.field-0 c.in_ok-run_core.ensures.runs c.finish.result
    c.finish.ensures.core

pub returns-clause-picked : goal.returns-clause-picked
returns-clause-picked g c =
    let rules : List Rule =
    map (λ r. (goal.Routine-dyn g (r.vtable, r.value)).rule r.value) c.args.routines.now in
    let specs : List Spec =
    map (λ r. (goal.Routine-dyn g (r.vtable, r.value)).spec_of r.value) c.args.routines.now in
    let was = run_state c.cores.run c.cores.disk c.cores.wire c.cores.meter in
    let mid = run_state c.run_core.new.run c.run_core.new.disk c.run_core.new.wire
    c.run_core.new.meter in
    on_err_fact _ c.finish.result (stops_after_by g.D.Disk g.W.Wire g.T.Turns
    (run_by c.args.job.now rules specs c.args.found) c.args.disk.now c.args.wire.now
    c.args.meter.now c.args.turns.now c.cores.job.cut c.cores.next
    was c.cores.turns c.cores.invariant.between c.cores.job c.cores.invariant.job
    mid c.run_core.new.turns c.in_ok-run_core.field-0 c.in_ok-run_core.ensures.runs)

pub returns-clause-begun : goal.returns-clause-begun
returns-clause-begun g c =
    c.in_ok-run_core.ensures.begun ∙ c.cores.invariant.begun

pub returns-in_err-run_core-clause-stops : goal.returns-in_err-run_core-clause-stops
returns-in_err-run_core-clause-stops g c =
    let p = err_from_is_err_and c.from_residual-in_err-run_core.result
    c.from_residual-in_err-run_core.ensures.1 in
    let a : ℕ = g.D.Disk.faults c.args.disk.now in
    let b : ℕ = g.D.Disk.faults c.cores.disk in
    let d : ℕ = g.D.Disk.faults c.run_core.new.disk in
    let v : ℕ = g.W.Wire.faults c.args.wire.now in
    let w : ℕ = g.W.Wire.faults c.cores.wire in
    let x : ℕ = g.W.Wire.faults c.run_core.new.wire in
    let disk : a ≤ b = c.cores.invariant.disk_later in
    let wire : v ≤ w = c.cores.invariant.wire_later in
    rw (p.1, p.2) (stopped_after _ (count b d) (count w x) (count a d) (count v x)
    (Err c.in_err-run_core.field-0.0) (omega arith) (omega arith) (omega arith) (omega arith)
    (stopped_first _ _ (count b d) (count w x) (count b d) (count w x)
    c.in_err-run_core.field-0.0 refl (omega arith) refl (omega arith)
    c.in_err-run_core.ensures.stops))

pub returns-in_err-run-2-clause-stops : goal.returns-in_err-run-2-clause-stops
returns-in_err-run-2-clause-stops g c =
    let p = err_from_is_err_and c.from_residual-in_err-run-2.result
    c.from_residual-in_err-run-2.ensures.1 in
    let a : ℕ = g.D.Disk.faults c.args.disk.now in
    let b : ℕ = g.D.Disk.faults c.cores.disk in
    let d : ℕ = g.D.Disk.faults c.run_core.new.disk in
    let v : ℕ = g.W.Wire.faults c.args.wire.now in
    let w : ℕ = g.W.Wire.faults c.cores.wire in
    let x : ℕ = g.W.Wire.faults c.run_core.new.wire in
    let disk : a ≤ b = c.cores.invariant.disk_later in
    let wire : v ≤ w = c.cores.invariant.wire_later in
    let disk_on : b ≤ d = c.in_ok-run_core.ensures.stops.disk_later in
    let wire_on : w ≤ x = c.in_ok-run_core.ensures.stops.wire_later in
    rw (p.1, p.2) (stopped_after _ (count d d) (count x x) (count a d) (count v x)
    (Err c.in_err-run-2.field-0.0) (omega arith) (omega arith) (omega arith) (omega arith)
    (stopped_first _ _ (count d d) (count x x) (count d d) (count x x)
    c.in_err-run-2.field-0.0 refl (omega arith) refl (omega arith)
    (c.in_err-run-2.ensures.stops d x)))

pub returns-clause-stops : goal.returns-clause-stops
returns-clause-stops g c =
    let a : ℕ = g.D.Disk.faults c.args.disk.now in
    let b : ℕ = g.D.Disk.faults c.cores.disk in
    let d : ℕ = g.D.Disk.faults c.run_core.new.disk in
    let v : ℕ = g.W.Wire.faults c.args.wire.now in
    let w : ℕ = g.W.Wire.faults c.cores.wire in
    let x : ℕ = g.W.Wire.faults c.run_core.new.wire in
    let disk : a ≤ b = c.cores.invariant.disk_later in
    let wire : v ≤ w = c.cores.invariant.wire_later in
    let e : ℕ = g.D.Disk.faults c.finish.new.disk in
    let disk_on : b ≤ d = c.in_ok-run_core.ensures.stops.disk_later in
    let wire_on : w ≤ x = c.in_ok-run_core.ensures.stops.wire_later in
    stopped_after _ (count d e) (count x x) (count a e) (count v x) c.finish.result (omega arith)
    (omega arith) (omega arith) (omega arith) (c.finish.ensures.stops x)

pub returns-in_err-run-clause-stops : goal.returns-in_err-run-clause-stops
returns-in_err-run-clause-stops g c =
    let p = err_from_is_err_and c.from_residual.result c.from_residual.ensures.1 in
    let a : ℕ = g.D.Disk.faults c.args.disk.now in
    let v : ℕ = g.W.Wire.faults c.args.wire.now in
    rw (p.1, p.2) (stopped_first _ _ (count a a) (count v v) (count a a) (count v v)
    c.in_err-run.field-0.0 refl (omega arith) refl (omega arith) (c.in_err-run.ensures.stops a v))
