use Rattle.std.proofs.Common.{◌∙◌, sym, ap, length}
use Rattle.cx_core_events.specs.Paces.{Paces}
use Rattle.cx_core_events.specs.Events.{can_go}
use Rattle.cx_core_events.proofs.FlagLaws.{same_count}
use Rattle.cx_core_events.proofs.pace.Pace.met.Goals as goal

pub renew-requires : goal.renew-requires
renew-requires c =
    same_count c.self.inside.flags.parts.items (can_go c.self.inside.standings)
    (length c.self.inside.standings.parts) c.self.invariant.parts
    ∙ sym (ap (λ (p : Paces). length p.parts) c.meet.ensures)
