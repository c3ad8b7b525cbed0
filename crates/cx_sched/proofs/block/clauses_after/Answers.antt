use Rattle.cx_text.proofs.Loops.{begun, turned, fewer, stopped, ended_at}
use Rattle.cx_sched.proofs.BlockLaws.{clause_short}
use Rattle.cx_sched.proofs.block.clauses_after.Goals as goal

pub clauses-init : goal.clauses-init
clauses-init c = begun

pub clauses-preserved : goal.clauses-preserved
clauses-preserved c = turned clause_short c.clauses.invariant c.at_clause.ensures
    c.clauses-test.true c.in_ok-clause.ensures

pub clauses-smaller : goal.clauses-smaller
clauses-smaller c = fewer clause_short c.in_ok-clause.ensures

pub returns-in_err-clause : goal.returns-in_err-clause
returns-in_err-clause c =
    stopped _ _ _ _ clause_short c.clauses.invariant c.at_clause.ensures c.clauses-test.true
    c.in_err-clause.ensures c.from_residual.ensures.1

pub returns : goal.returns
returns c = ended_at clause_short c.clauses.invariant c.at_clause.ensures c.clauses-test.false
