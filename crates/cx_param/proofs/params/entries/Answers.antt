use Rattle.cx_text.proofs.Loops.{begun, turned, fewer, stopped, ended_at}
use Rattle.cx_param.proofs.ParamLaws.{entry_short}
use Rattle.cx_param.proofs.params.entries.Goals as goal

pub turns-init : goal.turns-init
turns-init c = begun

pub turns-preserved : goal.turns-preserved
turns-preserved c = turned entry_short c.turns.invariant c.at_entry.ensures c.turns-test.true
    c.in_ok-entry.ensures

pub turns-smaller : goal.turns-smaller
turns-smaller c = fewer entry_short c.in_ok-entry.ensures

pub returns-in_err-entry : goal.returns-in_err-entry
returns-in_err-entry c =
    stopped _ _ _ _ entry_short c.turns.invariant c.at_entry.ensures c.turns-test.true
    c.in_err-entry.ensures c.from_residual.ensures.1

pub returns : goal.returns
returns c = ended_at entry_short c.turns.invariant c.at_entry.ensures c.turns-test.false
