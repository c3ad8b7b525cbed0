use Rattle.std.proofs.Common.{◌∙◌, ◌≡◌, false, sym}
use Rattle.std.specs.Prelude.{slice_get}
use Rattle.cx_core_events.specs.Events.{events}
use Rattle.cx_core_events.proofs.AheadLaws.{none_ahead}
use Rattle.cx_core_events.proofs.pace.Pace.is_saving.Goals as goal

pub returns-clause-none : goal.returns-clause-none
returns-clause-none c = rw (← c.self.view_is) (λ none k.
    none_ahead c.self.inside.standings (slice_get (events c.self.inside.standings) k)
    (sym c.is_saving.ensures ∙ none))
