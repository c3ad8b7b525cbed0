use Rattle.cx_text.proofs.Loops.{begun, turned, fewer, stopped, ended_at}
use Rattle.cx_sched.proofs.LineLaws.{entry_short}
use Rattle.cx_sched.proofs.lines.entries.Goals as goal

pub entries-init : goal.entries-init
entries-init c = begun

pub entries-preserved : goal.entries-preserved
entries-preserved c = turned entry_short c.entries.invariant c.at_inside.ensures c.entries-test.true
    c.in_ok-entry.ensures

pub entries-smaller : goal.entries-smaller
entries-smaller c = fewer entry_short c.in_ok-entry.ensures

pub returns-in_err-entry : goal.returns-in_err-entry
returns-in_err-entry c =
    stopped _ _ _ _ entry_short c.entries.invariant c.at_inside.ensures c.entries-test.true
    c.in_err-entry.ensures c.from_residual.ensures.1

pub returns : goal.returns
returns c = ended_at entry_short c.entries.invariant c.at_inside.ensures c.entries-test.false
