use Rattle.cx_text.proofs.Loops.{begun, turned, fewer, stopped, ended_at}
use Rattle.cx_iface.proofs.FileLaws.{item_short}
use Rattle.cx_iface.proofs.interface.items.Goals as goal

pub items-init : goal.items-init
items-init c = begun

pub items-preserved : goal.items-preserved
items-preserved c = turned item_short c.items.invariant c.at_word.ensures c.items-test.true
    c.in_ok-item.ensures

pub items-smaller : goal.items-smaller
items-smaller c = fewer item_short c.in_ok-item.ensures

pub returns-in_err-item : goal.returns-in_err-item
returns-in_err-item c = stopped _ _ _ _ item_short c.items.invariant c.at_word.ensures
    c.items-test.true c.in_err-item.ensures c.from_residual.ensures.1

pub returns : goal.returns
returns c = ended_at item_short c.items.invariant c.at_word.ensures c.items-test.false
