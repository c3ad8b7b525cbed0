use Rattle.cx_text.proofs.Loops.{begun, turned, fewer, stopped, ended_at}
use Rattle.cx_text.proofs.LexemeLaws.{inside_short}
use Rattle.cx_text.proofs.reader.Reader.skip_inside.Goals as goal

pub skipped-init : goal.skipped-init
skipped-init c = begun

pub skipped-preserved : goal.skipped-preserved
skipped-preserved c = turned inside_short c.skipped.invariant c.at_inside.ensures
    c.skipped-test.true c.in_ok-inside.ensures

pub skipped-smaller : goal.skipped-smaller
skipped-smaller c = fewer inside_short c.in_ok-inside.ensures

pub returns-in_err-inside : goal.returns-in_err-inside
returns-in_err-inside c =
    stopped _ _ _ _ inside_short c.skipped.invariant c.at_inside.ensures c.skipped-test.true
    c.in_err-inside.ensures c.from_residual.ensures.1

pub returns : goal.returns
returns c = ended_at inside_short c.skipped.invariant c.at_inside.ensures c.skipped-test.false
