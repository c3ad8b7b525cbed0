use Rattle.cx_text.proofs.Loops.{begun, turned, fewer, stopped, ended_at}
use Rattle.cx_param.proofs.BlockLaws.{texts_short}
use Rattle.cx_param.proofs.blocks.text_ranges.Goals as goal

pub turns-init : goal.turns-init
turns-init c = begun

pub turns-preserved : goal.turns-preserved
turns-preserved c = turned (texts_short c.args.ptype)
    c.turns.invariant c.at_quoted_text.ensures c.turns-test.true c.in_ok-texts.ensures

pub turns-smaller : goal.turns-smaller
turns-smaller c = fewer (texts_short c.args.ptype) c.in_ok-texts.ensures

pub returns-in_err-texts : goal.returns-in_err-texts
returns-in_err-texts c =
    stopped _ _ _ _ (texts_short c.args.ptype)
    c.turns.invariant c.at_quoted_text.ensures c.turns-test.true c.in_err-texts.ensures
    c.from_residual.ensures.1

pub returns : goal.returns
returns c = ended_at (texts_short c.args.ptype)
    c.turns.invariant c.at_quoted_text.ensures c.turns-test.false
