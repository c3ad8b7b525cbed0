use Rattle.cx_text.proofs.Loops.{begun, turned, fewer, stopped, ended_at}
use Rattle.cx_param.proofs.BlockLaws.{further_short}
use Rattle.cx_param.proofs.blocks.furthers.Goals as goal

pub turns-init : goal.turns-init
turns-init c = begun

pub turns-preserved : goal.turns-preserved
turns-preserved c = turned further_short c.turns.invariant c.at_sign.ensures c.turns-test.true
    c.in_ok-further.ensures

pub turns-smaller : goal.turns-smaller
turns-smaller c = fewer further_short c.in_ok-further.ensures

pub returns-in_err-further : goal.returns-in_err-further
returns-in_err-further c =
    stopped _ _ _ _ further_short c.turns.invariant c.at_sign.ensures c.turns-test.true
    c.in_err-further.ensures c.from_residual.ensures.1

pub returns : goal.returns
returns c = ended_at further_short c.turns.invariant c.at_sign.ensures c.turns-test.false
