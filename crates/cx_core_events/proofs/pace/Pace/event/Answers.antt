use Rattle.std.proofs.Common.{◌∙◌, sym, length}
use Rattle.cx_core_events.specs.Events.{can_go, events}
use Rattle.cx_core_events.proofs.FlagLaws.{few_flags, get_inside}
use Rattle.cx_core_events.proofs.pace.Pace.event.Goals as goal

pub event-requires : goal.event-requires
event-requires c = few_flags c.self.inside.flags.parts.items (can_go c.self.inside.standings)
    (length c.self.inside.standings.parts) c.self.invariant.parts c.self.invariant.few

pub unreachable-requires : goal.unreachable-requires
unreachable-requires c =
    get_inside (events c.args.self.now) c.args.k c.requires
    (rw (← c.self.view_is) (sym (c.event.ensures c.self.inside.standings c.self.invariant)
    ∙ c.in-None.is))
