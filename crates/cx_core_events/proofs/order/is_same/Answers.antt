use Rattle.cx_core_events.proofs.TwinLaws.{told_place}
use Rattle.cx_core_events.proofs.order.is_same.Goals as goal

pub returns : goal.returns
returns c = told_place c.is_same.result c.args.first.now c.args.second.now c.is_same.ensures
