use Rattle.std.proofs.Common.{arith}
use Rattle.cx_ghost.proofs.Sides.{neighbour_below}
use Rattle.cx_ghost.proofs.partner.partner.Goals as goal

pub returns-clause-below : goal.returns-clause-below
returns-clause-below c =
    let dir = c.requires.dir in
    let most = c.requires.whole.shape.most in
    neighbour_below c.args.cut.now c.requires.whole.cut c.args.k c.requires.part c.args.dir
    (omega (arith, dir, most)) c.args.side c.neighbour.result c.neighbour.ensures
