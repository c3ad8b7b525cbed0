use Rattle.std.proofs.Common.{length}
use Rattle.cx_core_events.specs.Events.{can_go}
use Rattle.cx_core_events.proofs.FlagLaws.{same_count}
use Rattle.cx_core_events.proofs.flags.set_after.Goals as goal

pub returns-else-alone-clause-count : goal.returns-else-alone-clause-count
returns-else-alone-clause-count c =
    same_count c.set_flags.new.flags.items (can_go c.args.standings.now)
    (length c.args.standings.now.parts) c.set_flags.ensures.value
