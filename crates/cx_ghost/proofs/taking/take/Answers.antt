use Rattle.std.proofs.Common.{◌*◌, arith, ap, length}
use Rattle.cx_grid.specs.declared.boxes.Box3.{Box3}
use Rattle.cx_grid.specs.declared.shapes.Side.TheVariants.{Low, High}
use Rattle.cx_grid.specs.Boxes.{point_count}
use Rattle.cx_cut.specs.Neighbours.{partner}
use Rattle.cx_cut.proofs.NeighbourLaws.{neighbours}
use Rattle.cx_ghost.proofs.PostLaws.{halo_is, on_ok}
use Rattle.cx_ghost.proofs.TakeLaws.{high_ready, low_ready, taken_by, behind_is, takes_needed, can_mid, either_keeps, both_fill, sums, stops_high, stops_low}
use Rattle.cx_ghost.proofs.taking.take.Goals as goal

pub fill_from-requires-clause-front : goal.fill_from-requires-clause-front
fill_from-requires-clause-front g c =
    let can = c.requires.can in
    let law = neighbours c.args.cut.now can.whole.cut can.whole.shape in
    let direction = can.direction in
    let most = can.whole.shape.most in
    high_ready c.args.cut.now c.args.k c.args.dir c.args.vars.now law can.part
    (omega (arith, direction, most)) (g.W.Wire.queue c.args.wire.now) c.requires.ready
    c.partner-high.result _ c.partner-high.ensures.value c.in_ok-find.ensures
    (ap (λ (b : Box3). length c.args.vars.now * point_count b)
    (halo_is c.args.cut.now c.args.k c.args.dir c.args.vars.now c.args.patch.now can High))

pub fill_from-requires-2-clause-stored : goal.fill_from-requires-2-clause-stored
fill_from-requires-2-clause-stored g c =
    let can = c.requires.can in
    let law = neighbours c.args.cut.now can.whole.cut can.whole.shape in
    let direction = can.direction in
    let most = can.whole.shape.most in
    (can_mid c.args.cut.now c.args.k c.args.dir c.args.vars.now law (omega (arith, direction, most))
    c.args.patch.now c.fill_from.new.patch can (g.W.Wire.queue c.args.wire.now)
    c.partner-high.result c.partner-high.ensures.value c.in_ok-fill_from.ensures.filled).stored

pub fill_from-requires-2-clause-front : goal.fill_from-requires-2-clause-front
fill_from-requires-2-clause-front g c =
    let can = c.requires.can in
    let law = neighbours c.args.cut.now can.whole.cut can.whole.shape in
    let direction = can.direction in
    let most = can.whole.shape.most in
    let mid = can_mid c.args.cut.now c.args.k c.args.dir c.args.vars.now law
    (omega (arith, direction, most)) c.args.patch.now c.fill_from.new.patch can
    (g.W.Wire.queue c.args.wire.now)
    c.partner-high.result c.partner-high.ensures.value c.in_ok-fill_from.ensures.filled in
    low_ready c.args.cut.now c.args.k c.args.dir c.args.vars.now law can.part
    (omega (arith, direction, most)) (g.W.Wire.queue c.args.wire.now) c.requires.ready
    c.partner-low.result _ (g.W.Wire.queue c.fill_from.new.wire)
    c.partner-low.ensures.value c.in_ok-find-2.ensures
    (behind_is c.args.cut.now c.args.k c.args.dir (g.W.Wire.queue c.args.wire.now)
    (g.W.Wire.queue c.fill_from.new.wire)
    (taken_by c.args.k c.partner-high.result (partner c.args.cut.now c.args.k c.args.dir High)
    (g.W.Wire.queue c.args.wire.now) (g.W.Wire.queue c.fill_from.new.wire)
    c.partner-high.ensures.value c.in_ok-fill_from.ensures.queues))
    (ap (λ (b : Box3). length c.args.vars.now * point_count b)
    (halo_is c.args.cut.now c.args.k c.args.dir c.args.vars.now c.fill_from.new.patch mid Low))

pub returns-clause-filled : goal.returns-clause-filled
returns-clause-filled g c =
    let can = c.requires.can in
    let law = neighbours c.args.cut.now can.whole.cut can.whole.shape in
    let direction = can.direction in
    let most = can.whole.shape.most in
    on_ok c.fill_from-2.result
    (λ low. both_fill c.args.cut.now c.args.k c.args.dir c.args.vars.now law
    (omega (arith, direction, most)) c.args.patch.now c.fill_from.new.patch can
    (g.W.Wire.queue c.args.wire.now)
    c.partner-high.result c.partner-high.ensures.value c.in_ok-fill_from.ensures.filled
    c.fill_from-2.new.patch (g.W.Wire.queue c.fill_from.new.wire)
    c.partner-low.result c.partner-low.ensures.value low
    (behind_is c.args.cut.now c.args.k c.args.dir (g.W.Wire.queue c.args.wire.now)
    (g.W.Wire.queue c.fill_from.new.wire)
    (taken_by c.args.k c.partner-high.result (partner c.args.cut.now c.args.k c.args.dir High)
    (g.W.Wire.queue c.args.wire.now) (g.W.Wire.queue c.fill_from.new.wire)
    c.partner-high.ensures.value c.in_ok-fill_from.ensures.queues)))
    c.fill_from-2.ensures.filled

pub returns-clause-kept : goal.returns-clause-kept
returns-clause-kept g c =
    let can = c.requires.can in
    let law = neighbours c.args.cut.now can.whole.cut can.whole.shape in
    let direction = can.direction in
    let most = can.whole.shape.most in
    either_keeps c.args.cut.now c.args.k c.args.dir c.args.vars.now law
    (omega (arith, direction, most)) c.args.patch.now c.fill_from.new.patch can
    (g.W.Wire.queue c.args.wire.now)
    c.partner-high.result c.partner-high.ensures.value c.in_ok-fill_from.ensures.filled
    c.fill_from-2.new.patch (g.W.Wire.queue c.fill_from.new.wire)
    c.partner-low.result c.partner-low.ensures.value
    c.fill_from-2.result c.fill_from-2.ensures.filled c.fill_from-2.ensures.unfilled

pub returns-clause-queues : goal.returns-clause-queues
returns-clause-queues g c =
    on_ok c.fill_from-2.result
    (λ second. takes_needed c.args.cut.now c.args.k c.args.dir (g.W.Wire.queue c.args.wire.now)
    (g.W.Wire.queue c.fill_from.new.wire) (g.W.Wire.queue c.fill_from-2.new.wire)
    (taken_by c.args.k c.partner-high.result (partner c.args.cut.now c.args.k c.args.dir High)
    (g.W.Wire.queue c.args.wire.now) (g.W.Wire.queue c.fill_from.new.wire)
    c.partner-high.ensures.value c.in_ok-fill_from.ensures.queues)
    (taken_by c.args.k c.partner-low.result (partner c.args.cut.now c.args.k c.args.dir Low)
    (g.W.Wire.queue c.fill_from.new.wire) (g.W.Wire.queue c.fill_from-2.new.wire)
    c.partner-low.ensures.value second))
    c.fill_from-2.ensures.queues

pub returns-clause-sum : goal.returns-clause-sum
returns-clause-sum g c = λ told.
    on_ok c.fill_from-2.result
    (λ second. sums c.args.cut.now c.args.k c.args.dir told (g.W.Wire.queue c.args.wire.now)
    (g.W.Wire.queue c.fill_from.new.wire) c.partner-high.result c.partner-low.result _ _ _ _
    c.partner-high.ensures.value c.partner-low.ensures.value (c.in_ok-fill_from.ensures.sum told)
    second
    (behind_is c.args.cut.now c.args.k c.args.dir (g.W.Wire.queue c.args.wire.now)
    (g.W.Wire.queue c.fill_from.new.wire)
    (taken_by c.args.k c.partner-high.result (partner c.args.cut.now c.args.k c.args.dir High)
    (g.W.Wire.queue c.args.wire.now) (g.W.Wire.queue c.fill_from.new.wire)
    c.partner-high.ensures.value c.in_ok-fill_from.ensures.queues)))
    (c.fill_from-2.ensures.sum told)

pub returns-clause-stopped : goal.returns-clause-stopped
returns-clause-stopped g c =
    stops_low g.W.Wire c.args.cut.now c.args.k c.args.dir c.args.vars.now c.args.patch.now
    c.args.wire.now c.fill_from.new.patch c.fill_from.new.wire
    c.partner-high.result c.partner-high.ensures.value c.requires.can
    c.in_ok-fill_from.ensures.filled c.in_ok-fill_from.ensures.queues
    c.in_ok-fill_from.ensures.received c.in_ok-fill_from.ensures.sum
    c.fill_from-2.new.patch c.fill_from-2.new.wire c.partner-low.result c.fill_from-2.result
    c.partner-low.ensures.value c.fill_from-2.ensures.needed
    c.fill_from-2.ensures.unfilled c.fill_from-2.ensures.unreceived c.fill_from-2.ensures.same
    c.fill_from-2.ensures.same_sum

pub returns-in_err-fill_from-clause-stopped : goal.returns-in_err-fill_from-clause-stopped
returns-in_err-fill_from-clause-stopped g c =
    stops_high g.W.Wire c.args.cut.now c.args.k c.args.dir c.args.vars.now c.args.patch.now
    c.args.wire.now c.fill_from.new.patch c.fill_from.new.wire
    c.partner-high.result c.from_residual-in_err-fill_from.result c.partner-high.ensures.value
    c.in_err-fill_from.ensures.needed c.in_err-fill_from.ensures.unfilled
    c.in_err-fill_from.ensures.unreceived c.in_err-fill_from.ensures.same
    c.in_err-fill_from.ensures.same_sum (g.met.W.Wire.sum_fits c.args.wire.now)
