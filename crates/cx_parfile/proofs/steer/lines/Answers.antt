use Rattle.cx_text.proofs.Loops.{begun, turned, fewer, stopped, ended_at}
use Rattle.cx_parfile.proofs.SteerLaws.{line_short}
use Rattle.cx_parfile.proofs.steer.lines.Goals as goal

pub lines-init : goal.lines-init
lines-init c = begun

pub lines-preserved : goal.lines-preserved
lines-preserved c = turned line_short c.lines.invariant c.at_word.ensures c.lines-test.true
    c.in_ok-line.ensures

pub lines-smaller : goal.lines-smaller
lines-smaller c = fewer line_short c.in_ok-line.ensures

pub returns-in_err-line : goal.returns-in_err-line
returns-in_err-line c = stopped _ _ _ _ line_short c.lines.invariant c.at_word.ensures
    c.lines-test.true c.in_err-line.ensures c.from_residual.ensures.1

pub returns : goal.returns
returns c = ended_at line_short c.lines.invariant c.at_word.ensures c.lines-test.false
