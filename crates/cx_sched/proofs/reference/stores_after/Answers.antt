use Rattle.cx_text.proofs.Loops.{begun, turned, fewer, stopped, ended_at}
use Rattle.cx_sched.proofs.RefLaws.{more_stores_short}
use Rattle.cx_sched.proofs.reference.stores_after.Goals as goal

pub groups-init : goal.groups-init
groups-init c = begun

pub groups-preserved : goal.groups-preserved
groups-preserved c = turned more_stores_short c.groups.invariant c.at_word.ensures
    c.groups-test.true c.in_ok-more_stores.ensures

pub groups-smaller : goal.groups-smaller
groups-smaller c = fewer more_stores_short c.in_ok-more_stores.ensures

pub returns-in_err-more_stores : goal.returns-in_err-more_stores
returns-in_err-more_stores c =
    stopped _ _ _ _ more_stores_short c.groups.invariant c.at_word.ensures c.groups-test.true
    c.in_err-more_stores.ensures c.from_residual.ensures.1

pub returns : goal.returns
returns c = ended_at more_stores_short c.groups.invariant c.at_word.ensures c.groups-test.false
