use Rattle.std.proofs.Common.{◌≡◌, map, take}
use Rattle.cx_job.proofs.making.specs_of.Given as goal

abbrev pub invariant-routines : goal.invariant-routines
invariant-routines g l =
    map (λ s. s.now) l.specs.items
    ≡ map (λ r. (goal.Routine-dyn g (r.vtable, r.value)).spec_of r.value)
    (take l.routine-index l.routines)
