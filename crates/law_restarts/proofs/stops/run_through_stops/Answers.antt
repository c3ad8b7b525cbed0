use Rattle.std.proofs.Common.{map}
use Rattle.law_restarts.specs.Stops.{routines_of, stage}
use Rattle.law_restarts.proofs.StopLaws.{ends_as_one}
use Rattle.law_restarts.proofs.stops.run_through_stops.Goals as goal

pub returns-clause-starts : goal.returns-clause-starts
returns-clause-starts g c = record {
  found =
      stage c.after_stops.new.shelf c.in_ok-left.left (g.T.Turns.begun c.after_stops.new.turns)
      c.after_stops.new.out c.after_stops.new.meter;
  stopped = c.in_ok-left.ensures;
  last = c.in_ok-status.ensures c.in_ok-left.left c.start.new.disk;
}

pub returns-clause-ends : goal.returns-clause-ends
returns-clause-ends g c =
    ends_as_one
    (routines_of
    (map (λ r. (goal.Routine-dyn g (r.vtable, r.value)).rule r.value) c.args.routines.now)
    (map (λ r. (goal.Routine-dyn g (r.vtable, r.value)).spec_of r.value) c.args.routines.now))
    c.args.words.now c.args.stops.now
    (stage c.args.shelf.now c.args.disk (g.T.Turns.begun c.args.turns.now) c.args.out.now
    c.args.meter.now)
    (stage c.start.new.shelf c.start.new.disk (g.T.Turns.begun c.start.new.turns) c.start.new.out
    c.start.new.meter)
    c.in_ok-status.status
    (record {
      found =
          stage c.after_stops.new.shelf c.in_ok-left.left
          (g.T.Turns.begun c.after_stops.new.turns) c.after_stops.new.out
          c.after_stops.new.meter;
      stopped = c.in_ok-left.ensures;
      last = c.in_ok-status.ensures c.in_ok-left.left c.start.new.disk;
    })
