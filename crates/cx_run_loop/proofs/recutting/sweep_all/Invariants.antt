use Rattle.std.proofs.Common.{◌≡◌, map, drop}
use Rattle.cx_run_loop.specs.Recuts.{all_sweep}
use Rattle.cx_run_loop.proofs.recutting.sweep_all.Given as goal

abbrev pub invariant-each : goal.invariant-each
invariant-each g l =
    all_sweep (map (λ r. (goal.Routine-dyn g (r.vtable, r.value)).spec_of r.value)
    (drop l.routine-index l.routines)) l.cut
    ≡ all_sweep (map (λ r. (goal.Routine-dyn g (r.vtable, r.value)).spec_of r.value) l.routines)
    l.cut
