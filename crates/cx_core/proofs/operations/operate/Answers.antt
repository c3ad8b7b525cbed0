use Rattle.std.proofs.Common.{refl, subst}
use Rattle.cx_plan.specs.Setups.{setup_of}
use Rattle.cx_core_part.specs.Jobs.{IsOperation}
use Rattle.cx_core_part.specs.Tests.{CanTest}
use Rattle.cx_core_part.proofs.AskLaws.{can_post, can_take, can_test}
use Rattle.cx_core.specs.Moving.{Asks, holdings}
use Rattle.cx_core.specs.Steps.{counts}
use Rattle.law_parts.specs.Nets.{costs}
use Rattle.cx_core.proofs.RiseLaws.{run_cut, run_patch, stays, sweep_rises, apply_rises, take_rises}
use Rattle.cx_core.proofs.OperateLaws.{in_cut, swept, applied, offered, joined_all, sent, took, loop_tested}
use Rattle.cx_core.proofs.operations.operate.Goals as goal

pub post-requires-clause-can : goal.post-requires-clause-can
post-requires-clause-can g c =
    let can = c.requires.can in
    can_post c.args.job.now can.checked c.args.cut.now can.cut_is c.args.part can.part
    c.args.patch.now can.patch c.in-Post.dir c.in-Post.vars
    (subst (IsOperation (setup_of c.args.job.now)) c.in-Post.is can.operation)

pub take-requires-clause-can : goal.take-requires-clause-can
take-requires-clause-can g c =
    let can = c.requires.can in
    can_take c.args.job.now can.checked c.args.cut.now can.cut_is c.args.part can.part
    c.args.patch.now can.patch c.in-Take.dir c.in-Take.vars c.in-Take.field-2
    (subst (IsOperation (setup_of c.args.job.now)) c.in-Take.is can.operation)

pub take-requires-clause-there : goal.take-requires-clause-there
take-requires-clause-there g c =
    subst (λ o. Asks c.args.job.now c.args.cut.now c.args.part o
    (holdings c.args.patch.now c.args.boards.now c.args.gathering.now
    (g.W.Wire.queue c.args.wire.now) c.args.meter.now (g.W.Wire.received c.args.wire.now)
    (g.W.Wire.sum c.args.wire.now))) c.in-Take.is c.requires.can.asks

pub sweep-requires-clause-cut : goal.sweep-requires-clause-cut
sweep-requires-clause-cut g c =
    in_cut c.args.job.now c.args.cut.now c.args.part c.args.op.now
    (holdings c.args.patch.now c.args.boards.now c.args.gathering.now
    (g.W.Wire.queue c.args.wire.now) c.args.meter.now (g.W.Wire.received c.args.wire.now)
    (g.W.Wire.sum c.args.wire.now)) c.requires.can

pub apply-requires-clause-cut : goal.apply-requires-clause-cut
apply-requires-clause-cut g c =
    in_cut c.args.job.now c.args.cut.now c.args.part c.args.op.now
    (holdings c.args.patch.now c.args.boards.now c.args.gathering.now
    (g.W.Wire.queue c.args.wire.now) c.args.meter.now (g.W.Wire.received c.args.wire.now)
    (g.W.Wire.sum c.args.wire.now)) c.requires.can

pub test_loop-requires : goal.test_loop-requires
test_loop-requires g c =
    let can = c.requires.can in
    record {
      scalar = subst (λ o. CanTest o c.args.patch.now) c.in-Turn.is
          (can_test c.args.job.now can.checked c.args.patch.now can.patch.patch c.args.op.now
          can.operation);
    }

pub returns-in_ok-sweep-in-Sweep-clause-operates : goal.returns-in_ok-sweep-in-Sweep-clause-operates
returns-in_ok-sweep-in-Sweep-clause-operates g c = λ r of rules cut frame.
    swept r c.args.part c.args.at.now.count c.round-iteration.result c.in-Sweep.item
    c.args.at.now.place c.args.op.now
    (holdings c.args.patch.now c.args.boards.now c.args.gathering.now
    (g.W.Wire.queue c.args.wire.now) c.args.meter.now (g.W.Wire.received c.args.wire.now)
    (g.W.Wire.sum c.args.wire.now))
    (holdings c.sweep.new.patch c.args.boards.now c.args.gathering.now
    (g.W.Wire.queue c.args.wire.now) c.sweep.new.meter (g.W.Wire.received c.args.wire.now)
    (g.W.Wire.sum c.args.wire.now)) c.in_ok-sweep-in-Sweep.field-0
    c.in-Sweep.is c.round-iteration.ensures
    (c.in_ok-sweep-in-Sweep.ensures.turns r c.args.part of rules frame)
    c.in_ok-sweep-in-Sweep.ensures.frame refl

pub returns-in_ok-apply-in-Apply-clause-operates : goal.returns-in_ok-apply-in-Apply-clause-operates
returns-in_ok-apply-in-Apply-clause-operates g c = λ r of rules cut frame.
    applied r c.args.part c.args.at.now.count c.round-iteration.result c.in-Apply.item
    c.args.at.now.place c.args.op.now
    (holdings c.args.patch.now c.args.boards.now c.args.gathering.now
    (g.W.Wire.queue c.args.wire.now) c.args.meter.now (g.W.Wire.received c.args.wire.now)
    (g.W.Wire.sum c.args.wire.now))
    (holdings c.apply.new.patch c.args.boards.now c.args.gathering.now
    (g.W.Wire.queue c.args.wire.now) c.apply.new.meter (g.W.Wire.received c.args.wire.now)
    (g.W.Wire.sum c.args.wire.now)) c.in_ok-apply-in-Apply.field-0
    c.in-Apply.is c.round-iteration.ensures
    (c.in_ok-apply-in-Apply.ensures.turns r c.args.part of rules frame)
    c.in_ok-apply-in-Apply.ensures.frame refl

pub returns-in_ok-give-in-Give-clause-operates : goal.returns-in_ok-give-in-Give-clause-operates
returns-in_ok-give-in-Give-clause-operates g c = λ r of rules cut frame.
    offered r c.args.part c.args.at.now.count c.in-Give.item c.args.at.now.place c.args.op.now
    (holdings c.args.patch.now c.args.boards.now c.args.gathering.now
    (g.W.Wire.queue c.args.wire.now) c.args.meter.now (g.W.Wire.received c.args.wire.now)
    (g.W.Wire.sum c.args.wire.now))
    (holdings c.args.patch.now c.give-in-Give.new.self c.args.gathering.now
    (g.W.Wire.queue c.args.wire.now) c.args.meter.now (g.W.Wire.received c.args.wire.now)
    (g.W.Wire.sum c.args.wire.now))
    c.args.job.now of frame c.in-Give.is c.give.result c.give.ensures.kind c.give.ensures.points
    (c.give.ensures.number r c.args.part of frame)
    c.in_ok-give-in-Give.ensures.ok refl

pub returns-in_ok-join-in-Join-clause-operates : goal.returns-in_ok-join-in-Join-clause-operates
returns-in_ok-join-in-Join-clause-operates g c = λ r of rules cut frame.
    joined_all r c.args.part c.args.at.now.count c.round-iteration.result c.in-Join.item
    c.args.at.now.place c.args.op.now
    (holdings c.args.patch.now c.args.boards.now c.args.gathering.now
    (g.W.Wire.queue c.args.wire.now) c.args.meter.now (g.W.Wire.received c.args.wire.now)
    (g.W.Wire.sum c.args.wire.now))
    (holdings c.join.new.patch c.join.new.boards c.args.gathering.now
    (g.W.Wire.queue c.args.wire.now) c.args.meter.now (g.W.Wire.received c.args.wire.now)
    (g.W.Wire.sum c.args.wire.now)) c.in_ok-join-in-Join.field-0
    c.in-Join.is c.round-iteration.ensures (c.in_ok-join-in-Join.ensures r of cut) refl

pub returns-in_ok-post-in-Post-clause-operates : goal.returns-in_ok-post-in-Post-clause-operates
returns-in_ok-post-in-Post-clause-operates g c = λ r of rules cut frame.
    sent r c.args.part c.args.at.now.count 0 c.args.at.now.place c.args.op.now
    (holdings c.args.patch.now c.args.boards.now c.args.gathering.now
    (g.W.Wire.queue c.args.wire.now) c.args.meter.now (g.W.Wire.received c.args.wire.now)
    (g.W.Wire.sum c.args.wire.now))
    (holdings c.args.patch.now c.args.boards.now c.args.gathering.now
    (g.W.Wire.queue c.post.new.wire) c.args.meter.now (g.W.Wire.received c.post.new.wire)
    (g.W.Wire.sum c.post.new.wire))
    c.in-Post.dir c.in-Post.vars c.in-Post.is
    (λ n e. c.in_ok-post-in-Post.ensures.sent r n cut frame e)
    c.in_ok-post-in-Post.ensures.sum c.in_ok-post-in-Post.ensures.received refl

pub returns-in_ok-take-in-Take-clause-operates : goal.returns-in_ok-take-in-Take-clause-operates
returns-in_ok-take-in-Take-clause-operates g c = λ r of rules cut frame.
    let e = c.in_ok-take-in-Take.ensures in
    took r c.args.part c.args.at.now.count 0 c.args.at.now.place c.args.op.now
    (holdings c.args.patch.now c.args.boards.now c.args.gathering.now
    (g.W.Wire.queue c.args.wire.now) c.args.meter.now (g.W.Wire.received c.args.wire.now)
    (g.W.Wire.sum c.args.wire.now))
    (holdings c.take.new.patch c.args.boards.now c.args.gathering.now
    (g.W.Wire.queue c.take.new.wire) c.args.meter.now (g.W.Wire.received c.take.new.wire)
    (g.W.Wire.sum c.take.new.wire))
    c.in-Take.dir c.in-Take.vars c.in-Take.field-2 c.in-Take.is e.frame
    (λ mails h. e.filled r mails cut frame h) (e.queues r cut) (e.received r cut)
    (λ t mails h. e.sum t r mails cut h) refl

pub returns-in_ok-test_loop-in-Turn-clause-operates : goal.returns-in_ok-test_loop-in-Turn-clause-operates
returns-in_ok-test_loop-in-Turn-clause-operates g c = λ r of rules cut frame.
    loop_tested r c.args.part c.args.at.now.count 0 0 c.args.at.now.place c.args.op.now
    (holdings c.args.patch.now c.args.boards.now c.args.gathering.now
    (g.W.Wire.queue c.args.wire.now) c.args.meter.now (g.W.Wire.received c.args.wire.now)
    (g.W.Wire.sum c.args.wire.now))
    (holdings c.args.patch.now c.args.boards.now c.args.gathering.now
    (g.W.Wire.queue c.args.wire.now) c.args.meter.now (g.W.Wire.received c.args.wire.now)
    (g.W.Wire.sum c.args.wire.now)) c.in_ok-test_loop-in-Turn.field-0
    c.in-Turn.scalar c.in-Turn.path c.in-Turn.field-2 c.in-Turn.is
    (c.in_ok-test_loop-in-Turn.ensures r c.in-Turn.field-2 of.setup) refl

-- ---- what is counted

pub returns-in_ok-sweep-in-Sweep-clause-rises : goal.returns-in_ok-sweep-in-Sweep-clause-rises
returns-in_ok-sweep-in-Sweep-clause-rises g c = λ r of.
    let can = c.requires.can in
    sweep_rises r c.args.part c.args.op.now
    (counts c.args.meter.now (g.W.Wire.received c.args.wire.now)
    (g.W.Wire.sum c.args.wire.now))
    (counts c.sweep.new.meter (g.W.Wire.received c.args.wire.now)
    (g.W.Wire.sum c.args.wire.now))
    c.in-Sweep.item c.in-Sweep.is
    (c.in_ok-sweep-in-Sweep.ensures.rises r c.args.part of
    (run_patch c.args.job.now r of c.args.cut.now can.cut_is c.args.part c.args.patch.now
    can.patch)) refl

pub returns-in_ok-apply-in-Apply-clause-rises : goal.returns-in_ok-apply-in-Apply-clause-rises
returns-in_ok-apply-in-Apply-clause-rises g c = λ r of.
    let can = c.requires.can in
    apply_rises r c.args.part c.args.op.now
    (counts c.args.meter.now (g.W.Wire.received c.args.wire.now)
    (g.W.Wire.sum c.args.wire.now))
    (counts c.apply.new.meter (g.W.Wire.received c.args.wire.now)
    (g.W.Wire.sum c.args.wire.now))
    c.in-Apply.item c.in-Apply.is
    (c.in_ok-apply-in-Apply.ensures.rises r c.args.part of
    (run_patch c.args.job.now r of c.args.cut.now can.cut_is c.args.part c.args.patch.now
    can.patch)) refl

pub returns-in_ok-take-in-Take-clause-rises : goal.returns-in_ok-take-in-Take-clause-rises
returns-in_ok-take-in-Take-clause-rises g c = λ r of.
    take_rises r c.args.part c.args.op.now
    (counts c.args.meter.now (g.W.Wire.received c.args.wire.now)
    (g.W.Wire.sum c.args.wire.now))
    (counts c.args.meter.now (g.W.Wire.received c.take.new.wire)
    (g.W.Wire.sum c.take.new.wire))
    c.in-Take.dir c.in-Take.vars c.in-Take.field-2 c.in-Take.is refl
    (c.in_ok-take-in-Take.ensures.rises r
    (run_cut c.args.job.now r of c.args.cut.now c.requires.can.cut_is))

pub returns-in_ok-post-in-Post-clause-rises : goal.returns-in_ok-post-in-Post-clause-rises
returns-in_ok-post-in-Post-clause-rises g c = λ r of.
    stays (λ i. costs r i c.args.part c.args.op.now)
    (counts c.args.meter.now (g.W.Wire.received c.args.wire.now)
    (g.W.Wire.sum c.args.wire.now))
    (counts c.args.meter.now (g.W.Wire.received c.post.new.wire)
    (g.W.Wire.sum c.post.new.wire))
    refl c.in_ok-post-in-Post.ensures.received

pub returns-in_ok-give-in-Give-clause-rises : goal.returns-in_ok-give-in-Give-clause-rises
returns-in_ok-give-in-Give-clause-rises g c = λ r of.
    stays _ _ _ refl refl

pub returns-in_ok-join-in-Join-clause-rises : goal.returns-in_ok-join-in-Join-clause-rises
returns-in_ok-join-in-Join-clause-rises g c = λ r of.
    stays _ _ _ refl refl

pub returns-in_ok-test_loop-in-Turn-clause-rises : goal.returns-in_ok-test_loop-in-Turn-clause-rises
returns-in_ok-test_loop-in-Turn-clause-rises g c = λ r of.
    stays _ _ _ refl refl

pub returns-in_err-sweep-in-Sweep-clause-rises : goal.returns-in_err-sweep-in-Sweep-clause-rises
returns-in_err-sweep-in-Sweep-clause-rises g c = λ r of.
    let can = c.requires.can in
    sweep_rises r c.args.part c.args.op.now
    (counts c.args.meter.now (g.W.Wire.received c.args.wire.now)
    (g.W.Wire.sum c.args.wire.now))
    (counts c.sweep.new.meter (g.W.Wire.received c.args.wire.now)
    (g.W.Wire.sum c.args.wire.now))
    c.in-Sweep.item c.in-Sweep.is
    (c.in_err-sweep-in-Sweep.ensures.rises r c.args.part of
    (run_patch c.args.job.now r of c.args.cut.now can.cut_is c.args.part c.args.patch.now
    can.patch)) refl

pub returns-in_err-apply-in-Apply-clause-rises : goal.returns-in_err-apply-in-Apply-clause-rises
returns-in_err-apply-in-Apply-clause-rises g c = λ r of.
    let can = c.requires.can in
    apply_rises r c.args.part c.args.op.now
    (counts c.args.meter.now (g.W.Wire.received c.args.wire.now)
    (g.W.Wire.sum c.args.wire.now))
    (counts c.apply.new.meter (g.W.Wire.received c.args.wire.now)
    (g.W.Wire.sum c.args.wire.now))
    c.in-Apply.item c.in-Apply.is
    (c.in_err-apply-in-Apply.ensures.rises r c.args.part of
    (run_patch c.args.job.now r of c.args.cut.now can.cut_is c.args.part c.args.patch.now
    can.patch)) refl

pub returns-in_err-take-in-Take-clause-rises : goal.returns-in_err-take-in-Take-clause-rises
returns-in_err-take-in-Take-clause-rises g c = λ r of.
    take_rises r c.args.part c.args.op.now
    (counts c.args.meter.now (g.W.Wire.received c.args.wire.now)
    (g.W.Wire.sum c.args.wire.now))
    (counts c.args.meter.now (g.W.Wire.received c.take.new.wire)
    (g.W.Wire.sum c.take.new.wire))
    c.in-Take.dir c.in-Take.vars c.in-Take.field-2 c.in-Take.is refl
    (c.in_err-take-in-Take.ensures.rises r
    (run_cut c.args.job.now r of c.args.cut.now c.requires.can.cut_is))

pub returns-in_err-post-in-Post-clause-rises : goal.returns-in_err-post-in-Post-clause-rises
returns-in_err-post-in-Post-clause-rises g c = λ r of.
    stays (λ i. costs r i c.args.part c.args.op.now)
    (counts c.args.meter.now (g.W.Wire.received c.args.wire.now)
    (g.W.Wire.sum c.args.wire.now))
    (counts c.args.meter.now (g.W.Wire.received c.post.new.wire)
    (g.W.Wire.sum c.post.new.wire))
    refl c.in_err-post-in-Post.ensures.received

pub returns-in_err-give-in-Give-clause-rises : goal.returns-in_err-give-in-Give-clause-rises
returns-in_err-give-in-Give-clause-rises g c = λ r of.
    stays _ _ _ refl refl

pub returns-in_err-join-in-Join-clause-rises : goal.returns-in_err-join-in-Join-clause-rises
returns-in_err-join-in-Join-clause-rises g c = λ r of.
    stays _ _ _ refl refl

pub returns-in_err-test_loop-in-Turn-clause-rises : goal.returns-in_err-test_loop-in-Turn-clause-rises
returns-in_err-test_loop-in-Turn-clause-rises g c = λ r of.
    stays _ _ _ refl refl

pub returns-in-Rotate-clause-rises : goal.returns-in-Rotate-clause-rises
returns-in-Rotate-clause-rises g c = λ r of.
    stays _ _ _ refl refl

pub returns-in-Piece-clause-rises : goal.returns-in-Piece-clause-rises
returns-in-Piece-clause-rises g c = λ r of.
    stays _ _ _ refl refl

pub returns-in-Save-clause-rises : goal.returns-in-Save-clause-rises
returns-in-Save-clause-rises g c = λ r of.
    stays _ _ _ refl refl

pub returns-in-Test-clause-rises : goal.returns-in-Test-clause-rises
returns-in-Test-clause-rises g c = λ r of.
    stays _ _ _ refl refl

pub returns-in-Open-clause-rises : goal.returns-in-Open-clause-rises
returns-in-Open-clause-rises g c = λ r of.
    stays _ _ _ refl refl

pub returns-in-Again-clause-rises : goal.returns-in-Again-clause-rises
returns-in-Again-clause-rises g c = λ r of.
    stays _ _ _ refl refl

pub returns-in-Due-clause-rises : goal.returns-in-Due-clause-rises
returns-in-Due-clause-rises g c = λ r of.
    stays _ _ _ refl refl

pub returns-in-Written-clause-rises : goal.returns-in-Written-clause-rises
returns-in-Written-clause-rises g c = λ r of.
    stays _ _ _ refl refl

pub returns-in-Skip-clause-rises : goal.returns-in-Skip-clause-rises
returns-in-Skip-clause-rises g c = λ r of.
    stays _ _ _ refl refl

pub returns-in-Next-clause-rises : goal.returns-in-Next-clause-rises
returns-in-Next-clause-rises g c = λ r of.
    stays _ _ _ refl refl

pub returns-in-Halt-clause-rises : goal.returns-in-Halt-clause-rises
returns-in-Halt-clause-rises g c = λ r of.
    stays _ _ _ refl refl
