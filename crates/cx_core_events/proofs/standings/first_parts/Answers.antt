use Rattle.std.proofs.Common.{ap}
use Rattle.cx_plan.specs.Setups.{setup_of}
use Rattle.cx_core_events.specs.Steps.{standing_at, first_place}
use Rattle.cx_core_events.proofs.PaceLaws.{replicate_more}
use Rattle.cx_core_events.proofs.standings.first_parts.Goals as goal

pub parts-preserved : goal.parts-preserved
parts-preserved c = λ job whole e.
    replicate_more c.parts.counter (standing_at (first_place (setup_of job) c.args.from))
    _ c.parts.parts.items c.push.new.self.items
    (c.parts.invariant job whole e) c.in_ok-push.ensures.items
    (ap standing_at (c.first_place.ensures job whole e))
