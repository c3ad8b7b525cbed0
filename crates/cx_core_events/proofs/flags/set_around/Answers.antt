use Rattle.cx_core_events.proofs.FlagLaws.{around_all}
use Rattle.cx_core_events.proofs.flags.set_around.Goals as goal

pub returns : goal.returns
returns c =
    around_all c.args.standings.now c.args.k c.args.flags.now.items c.set_sides.new.flags.items
    c.set_sides-2.new.flags.items c.set_sides-3.new.flags.items
    c.set_sides.ensures.kept c.set_sides-2.ensures.kept c.set_sides-3.ensures.kept
    c.set_sides.ensures.now c.set_sides-2.ensures.now c.set_sides-3.ensures.now
