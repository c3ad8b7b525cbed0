use Rattle.cx_text.proofs.Loops.{begun, turned, fewer, stopped, ended_at}
use Rattle.cx_param.proofs.BlockLaws.{more_text_short}
use Rattle.cx_param.proofs.blocks.more_texts.Goals as goal

pub turns-init : goal.turns-init
turns-init c = begun

pub turns-preserved : goal.turns-preserved
turns-preserved c = turned (more_text_short c.args.ptype)
    c.turns.invariant c.at_sign.ensures c.turns-test.true c.in_ok-more_text.ensures

pub turns-smaller : goal.turns-smaller
turns-smaller c = fewer (more_text_short c.args.ptype) c.in_ok-more_text.ensures

pub returns-in_err-more_text : goal.returns-in_err-more_text
returns-in_err-more_text c =
    stopped _ _ _ _ (more_text_short c.args.ptype)
    c.turns.invariant c.at_sign.ensures c.turns-test.true c.in_err-more_text.ensures
    c.from_residual.ensures.1

pub returns : goal.returns
returns c = ended_at (more_text_short c.args.ptype)
    c.turns.invariant c.at_sign.ensures c.turns-test.false
