use Rattle.cx_text.proofs.Loops.{begun, turned, fewer, stopped, ended_at}
use Rattle.cx_param.proofs.BlockLaws.{number_range_short}
use Rattle.cx_param.proofs.blocks.number_ranges.Goals as goal

pub turns-init : goal.turns-init
turns-init c = begun

pub turns-preserved : goal.turns-preserved
turns-preserved c = turned number_range_short c.turns.invariant c.at_ints.ensures c.turns-test.true
    c.in_ok-number_range.ensures

pub turns-smaller : goal.turns-smaller
turns-smaller c = fewer number_range_short c.in_ok-number_range.ensures

pub returns-in_err-number_range : goal.returns-in_err-number_range
returns-in_err-number_range c =
    stopped _ _ _ _ number_range_short c.turns.invariant c.at_ints.ensures c.turns-test.true
    c.in_err-number_range.ensures c.from_residual.ensures.1

pub returns : goal.returns
returns c = ended_at number_range_short c.turns.invariant c.at_ints.ensures c.turns-test.false
