use Rattle.std.proofs.Common.{map, sum}
use Rattle.cx_batch.specs.Turns.{Turned}
use Rattle.cx_batch.proofs.driving.drive.Given as goal

abbrev pub invariant-rounds : goal.invariant-rounds
invariant-rounds g l = Turned g.K.Task l.initial.tasks.items l.tasks.items l.initial.x l.x

abbrev pub decreases-rounds : goal.decreases-rounds
decreases-rounds g l = sum (map g.K.Task.left l.tasks.items)
