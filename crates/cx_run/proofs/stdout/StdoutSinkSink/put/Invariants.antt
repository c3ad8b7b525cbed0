use Rattle.std.proofs.Common.{◌≡◌, length}
use Rattle.cx_run.proofs.stdout.StdoutSinkSink.put.Given as goal

abbrev pub invariant-pieces : goal.invariant-pieces
invariant-pieces g l = l.self-inside.faults ≡ l.fn.self

abbrev pub decreases-pieces : goal.decreases-pieces
decreases-pieces g l = length l.rest
