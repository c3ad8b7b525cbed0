use Rattle.std.proofs.Common.{arith}
use Rattle.cx_cut.proofs.NeighbourLaws.{neighbours}
use Rattle.cx_ghost.proofs.PostLaws.{on_ok}
use Rattle.cx_core_part.proofs.ExchangeLaws.{is_ready, wire_alone}
use Rattle.cx_core_part.proofs.TakeLaws.{takes_there, count_there, rises_there, sum_there, filled_there}
use Rattle.cx_core_part.proofs.exchanges.take.Goals as goal

pub take-requires-clause-ready : goal.take-requires-clause-ready
take-requires-clause-ready g c =
    let can = c.requires.can in
    let direction = can.direction in
    let most = can.whole.shape.most in
    is_ready c.args.cut.now (neighbours c.args.cut.now can.whole.cut can.whole.shape)
    c.args.k c.args.dir can.part (omega (arith, direction, most)) c.args.vars.now
    (g.W.Wire.queue c.args.wire.now) c.requires.there

pub returns-clause-filled : goal.returns-clause-filled
returns-clause-filled g c =
    on_ok c.take.result
    (λ fills r mails same patch shown.
    filled_there r c.args.k c.args.dir c.args.vars.now c.args.cut.now c.args.patch.now
    c.take.new.patch c.requires.can (g.W.Wire.queue c.args.wire.now)
    mails same patch shown c.take.ensures.kept fills)
    c.take.ensures.filled

pub returns-clause-queues : goal.returns-clause-queues
returns-clause-queues g c =
    on_ok c.take.result
    (λ taken r same. takes_there r c.args.k c.args.dir c.args.cut.now
    (g.W.Wire.queue c.args.wire.now) (g.W.Wire.queue c.take.new.wire) taken same)
    c.take.ensures.queues

pub returns-clause-received : goal.returns-clause-received
returns-clause-received g c =
    on_ok c.take.result
    (λ counted r same. count_there r c.args.k c.args.dir c.args.vars.now c.args.cut.now
    (g.W.Wire.received c.args.wire.now) (g.W.Wire.received c.take.new.wire) counted same)
    c.take.ensures.received

pub returns-clause-sum : goal.returns-clause-sum
returns-clause-sum g c = λ told.
    on_ok c.take.result
    (λ summed r mails same shown.
    sum_there told r c.args.k c.args.dir c.args.vars.now c.args.cut.now c.args.patch.now
    c.requires.can (g.W.Wire.queue c.args.wire.now) mails same shown
    (g.W.Wire.sum c.args.wire.now) (g.W.Wire.sum c.take.new.wire) summed)
    (c.take.ensures.sum told)

pub returns-clause-wire_alone : goal.returns-clause-wire_alone
returns-clause-wire_alone g c =
    let can = c.requires.can in
    let direction = can.direction in
    let most = can.whole.shape.most in
    wire_alone c.args.cut.now (neighbours c.args.cut.now can.whole.cut can.whole.shape)
    c.args.k c.args.dir can.part (omega (arith, direction, most)) c.args.vars.now
    (g.W.Wire.queue c.args.wire.now) c.requires.there
    c.take.result c.take.ensures.missing

pub returns-clause-rises : goal.returns-clause-rises
returns-clause-rises g c = λ r same.
    rises_there g.W.Wire c.args.k c.args.dir c.args.vars.now c.args.cut.now c.args.patch.now
    c.take.new.patch c.args.wire.now c.take.new.wire r c.take.result c.take.ensures.received
    c.take.ensures.unreceived c.take.ensures.stopped same
