-- between two cores
use Rattle.std.proofs.Common.{◌≡◌, ◌≤◌, ◌+◌, ◌-◌, map}
use Rattle.cx_rule.specs.Jobs.{FitJob}
use Rattle.cx_core.specs.Starts.{IsReady}
use Rattle.cx_run_loop.specs.Advances.{run_state}
use Rattle.cx_run_loop.specs.Cores.{run_by}
use Rattle.cx_run_loop.specs.Recuts.{with_cut}
use Rattle.cx_run_loop.proofs.CoresGo.{AreBetween}
use Rattle.cx_run_loop.proofs.driving.run_cores.Given as goal

abbrev pub invariant-cores : goal.invariant-cores
invariant-cores g l =
    let rules = map (λ r. (goal.Routine-dyn g (r.vtable, r.value)).rule r.value) l.routines in
    let specs = map (λ r. (goal.Routine-dyn g (r.vtable, r.value)).spec_of r.value) l.routines in
    record {
      job : l.job ≡ with_cut l.fn.job l.job.cut;
      ready : IsReady l.job;
      routines : FitJob specs l.job;
      between : AreBetween g.D.Disk g.W.Wire g.T.Turns
          (run_by l.fn.job rules specs l.fn.found) l.fn.disk l.fn.wire
          l.fn.meter l.fn.turns l.job.cut l.next
          (run_state l.run l.disk l.wire l.meter) l.turns;
      begun : g.T.Turns.begun l.turns ≡ g.T.Turns.begun l.fn.turns;
      disk_later : g.D.Disk.faults l.fn.disk ≤ g.D.Disk.faults l.disk;
      wire_later : g.W.Wire.faults l.fn.wire ≤ g.W.Wire.faults l.wire;
    }

abbrev pub decreases-cores : goal.decreases-cores
decreases-cores g l = (l.fn.job.itlast + 1) - l.next
