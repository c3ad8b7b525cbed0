use Rattle.std.proofs.Common.{map}
use Rattle.law_restarts.specs.Stops.{routines_of, stage}
use Rattle.law_restarts.proofs.StopLaws.{stopped_more, stopped_all}
use Rattle.law_restarts.proofs.stops.after_stops.Goals as goal

pub stops-init : goal.stops-init
stops-init g c = λ found are. are

pub stops-preserved : goal.stops-preserved
stops-preserved g c = λ found rest.
    c.stops.invariant found
    (stopped_more
    (routines_of
    (map (λ r. (goal.Routine-dyn g (r.vtable, r.value)).rule r.value) c.args.routines.now)
    (map (λ r. (goal.Routine-dyn g (r.vtable, r.value)).spec_of r.value) c.args.routines.now))
    c.args.stops.now c.stops.stop-index c.stop-item.result
    (stage c.stops.shelf c.stops.left (g.T.Turns.begun c.stops.turns) c.stops.out c.stops.meter)
    (stage c.stopped.new.shelf c.in_ok-left.left (g.T.Turns.begun c.stopped.new.turns)
    c.stopped.new.out c.stopped.new.meter)
    found c.stops-test.true c.stop-item.is c.in_ok-left.ensures rest)

pub returns : goal.returns
returns g c =
    c.stops.invariant
    (stage c.stops.shelf c.stops.left (g.T.Turns.begun c.stops.turns) c.stops.out c.stops.meter)
    (stopped_all
    (routines_of
    (map (λ r. (goal.Routine-dyn g (r.vtable, r.value)).rule r.value) c.args.routines.now)
    (map (λ r. (goal.Routine-dyn g (r.vtable, r.value)).spec_of r.value) c.args.routines.now))
    c.args.stops.now c.stops.stop-index
    (stage c.stops.shelf c.stops.left (g.T.Turns.begun c.stops.turns) c.stops.out c.stops.meter)
    c.stops-test.false)
