use Rattle.cx_text.proofs.Loops.{begun, turned, fewer, stopped, ended_at}
use Rattle.cx_param.proofs.DefaultLaws.{more_printed_short}
use Rattle.cx_param.proofs.defaults.printed_after.Goals as goal

pub turns-init : goal.turns-init
turns-init c = begun

pub turns-preserved : goal.turns-preserved
turns-preserved c = turned more_printed_short c.turns.invariant c.at_in_line.ensures
    c.turns-test.true c.in_ok-more_printed.ensures

pub turns-smaller : goal.turns-smaller
turns-smaller c = fewer more_printed_short c.in_ok-more_printed.ensures

pub returns-in_err-more_printed : goal.returns-in_err-more_printed
returns-in_err-more_printed c =
    stopped _ _ _ _ more_printed_short c.turns.invariant c.at_in_line.ensures c.turns-test.true
    c.in_err-more_printed.ensures c.from_residual.ensures.1

pub returns : goal.returns
returns c = ended_at more_printed_short c.turns.invariant c.at_in_line.ensures c.turns-test.false
