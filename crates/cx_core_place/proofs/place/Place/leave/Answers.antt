use Rattle.cx_core_place.proofs.OpenLaws.{left}
use Rattle.cx_core_place.proofs.place.Place.leave.Goals as goal

pub returns : goal.returns
returns c = left c.self.inside.pc c.self.inside.iteration c.args.count c.self.inside.opened.items
    c.pop.new.self.items c.args.self.now c.self.view_is c.pop.ensures.rest
