use Rattle.std.proofs.Common.{◌∙◌}
use Rattle.cx_core_events.proofs.AloneLaws.{flags_around}
use Rattle.cx_core_events.proofs.flags.set_near.Goals as goal

pub returns-clause-value : goal.returns-clause-value
returns-clause-value c = λ p alone was.
    flags_around p c.args.standings.now c.args.k c.args.flags.now.items c.set_flag.new.flags.items
    c.set_around.new.flags.items
    c.count.ensures.whole c.count.ensures.all c.requires.part alone was c.set_flag.ensures.kept
    c.set_flag.ensures.now c.set_around.ensures

pub returns-clause-count : goal.returns-clause-count
returns-clause-count c = c.set_around.ensures.keeps.count ∙ c.set_flag.ensures.kept.count
