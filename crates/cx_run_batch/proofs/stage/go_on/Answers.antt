use Rattle.std.proofs.Common.{refl}
use Rattle.cx_run_batch.specs.declared.stage.Stage.TheVariants.{Over}
use Rattle.cx_run_batch.proofs.WaitLaws.{stays}
use Rattle.cx_run_batch.proofs.stage.go_on.Goals as goal

pub advance-requires-clause-served : goal.advance-requires-clause-served
advance-requires-clause-served g c = rw c.in-Going.is at c.requires.served

pub advance-requires-clause-able : goal.advance-requires-clause-able
advance-requires-clause-able g c = rw c.in-Going.is at c.requires.able

pub returns-in-Going-clause-at : goal.returns-in-Going-clause-at
returns-in-Going-clause-at g c = rw c.in-Going.is c.advance.ensures.at

pub returns-in-Over-clause-at : goal.returns-in-Over-clause-at
returns-in-Over-clause-at g c = rw c.in-Over.is (λ disk_lent wire_lent spent more none x.
    stays g.D.Disk g.W.Wire _ _ c.args.job.now disk_lent c.args.disk.now wire_lent c.args.wire.now
    c.args.meter.now spent more none (Over c.in-Over.came) x)

pub returns-in-Going-clause-turns : goal.returns-in-Going-clause-turns
returns-in-Going-clause-turns g c = rw c.in-Going.is c.advance.ensures.turns

pub returns-in-Over-clause-turns : goal.returns-in-Over-clause-turns
returns-in-Over-clause-turns g c = rw c.in-Over.is refl
