use Rattle.std.proofs.Common.{◌∙◌, length}
use Rattle.cx_core_events.specs.Events.{can_go}
use Rattle.cx_core_events.proofs.FlagLaws.{few_flags}
use Rattle.cx_core_events.proofs.flags.Flags.new.Goals as goal

pub count_flags-going-requires : goal.count_flags-going-requires
count_flags-going-requires c =
    few_flags c.deref.result.now (can_go c.args.standings.now) (length c.args.standings.now.parts)
    (c.deref.ensures.value ∙ c.set_flags.ensures.value) c.set_flags.ensures.few
