use Rattle.std.proofs.Common.{IsTrue}
use Rattle.cx_grid.specs.declared.shapes.Side.TheVariants.{Low, High}
use Rattle.cx_ghost.specs.Posts.{sent_to}
use Rattle.cx_ghost.proofs.PostLaws.{few_values, low_sent, both_sent, adds_twice, adds_by, adds_first, on_ok, on_err}
use Rattle.cx_ghost.proofs.posting.post.Goals as goal

pub addressed-requires-clause-few : goal.addressed-requires-clause-few
addressed-requires-clause-few g c =
    few_values c.args.cut.now c.args.k c.args.dir c.args.vars.now c.args.patch.now c.requires.can
    Low

pub addressed-requires-2-clause-few : goal.addressed-requires-2-clause-few
addressed-requires-2-clause-few g c =
    few_values c.args.cut.now c.args.k c.args.dir c.args.vars.now c.args.patch.now c.requires.can
    High

pub returns-clause-sent : goal.returns-clause-sent
returns-clause-sent g c =
    on_ok c.send_to-2.result
    (λ second. adds_twice c.args.k (sent_to {tells = IsTrue g.W.Wire.tells} c.in_ok-low.low)
    (sent_to c.in_ok-high.high) _ (g.W.Wire.queue c.args.wire.now)
    (g.W.Wire.queue c.send_to.new.wire) (g.W.Wire.queue c.send_to-2.new.wire)
    c.in_ok-send_to.ensures.sent second
    (both_sent c.args.cut.now c.args.k c.args.dir c.args.vars.now c.args.patch.now c.requires.can
    (IsTrue g.W.Wire.tells)
    c.args.op c.partner.result c.partner-2.result c.in_ok-low.low c.in_ok-high.high
    c.partner.ensures.value c.partner-2.ensures.value c.in_ok-low.ensures c.in_ok-high.ensures))
    c.send_to-2.ensures.sent

pub returns-clause-stopped : goal.returns-clause-stopped
returns-clause-stopped g c =
    on_err c.send_to-2.result
    (λ same. adds_first c.args.k _ (g.W.Wire.queue c.args.wire.now)
    (g.W.Wire.queue c.send_to.new.wire) (g.W.Wire.queue c.send_to-2.new.wire)
    (adds_by c.args.k (sent_to {tells = IsTrue g.W.Wire.tells} c.in_ok-low.low) _
    (g.W.Wire.queue c.args.wire.now) (g.W.Wire.queue c.send_to.new.wire)
    (low_sent c.args.cut.now c.args.k c.args.dir c.args.vars.now c.args.patch.now c.requires.can
    (IsTrue g.W.Wire.tells)
    c.args.op c.partner.result c.partner-2.result c.in_ok-low.low c.in_ok-high.high
    c.partner.ensures.value c.partner-2.ensures.value c.in_ok-low.ensures c.in_ok-high.ensures)
    c.in_ok-send_to.ensures.sent)
    same)
    c.send_to-2.ensures.unsent
