use Rattle.cx_text.proofs.Loops.{begun, turned, fewer, stopped, ended_at}
use Rattle.cx_conf.proofs.ConfLaws.{more_short}
use Rattle.cx_conf.proofs.configuration.entries.Goals as goal

pub entries-init : goal.entries-init
entries-init c = begun

pub entries-preserved : goal.entries-preserved
entries-preserved c = turned more_short c.entries.invariant c.at_entry.ensures c.entries-test.true
    c.in_ok-more.ensures

pub entries-smaller : goal.entries-smaller
entries-smaller c = fewer more_short c.in_ok-more.ensures

pub returns-in_err-more : goal.returns-in_err-more
returns-in_err-more c = stopped _ _ _ _ more_short c.entries.invariant c.at_entry.ensures
    c.entries-test.true c.in_err-more.ensures c.from_residual.ensures.1

pub returns : goal.returns
returns c = ended_at more_short c.entries.invariant c.at_entry.ensures c.entries-test.false
