-- whatever the other starts lead to, all of them lead to
use Rattle.std.proofs.Common.{map, drop}
use Rattle.law_restarts.specs.Stops.{Stage, AreStopped, routines_of, stage}
use Rattle.law_restarts.proofs.stops.after_stops.Given as goal

abbrev pub invariant-stops : goal.invariant-stops
invariant-stops g l =
    let routines =
    routines_of
    (map (λ r. (goal.Routine-dyn g (r.vtable, r.value)).rule r.value) l.routines)
    (map (λ r. (goal.Routine-dyn g (r.vtable, r.value)).spec_of r.value) l.routines) in
    (found : Stage)
    → AreStopped routines (drop l.stop-index l.stops)
    (stage l.shelf l.left (g.T.Turns.begun l.turns) l.out l.meter) found
    → AreStopped routines l.stops
    (stage l.initial.shelf l.initial.left (g.T.Turns.begun l.initial.turns) l.initial.out
    l.initial.meter) found
