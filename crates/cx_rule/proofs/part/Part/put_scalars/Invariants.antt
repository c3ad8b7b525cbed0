use Rattle.std.proofs.Common.{length}
use Rattle.cx_rule.specs.Staging.{numbers_staged}
use Rattle.cx_rule.proofs.PutLaws.{ScalarsTo}
use Rattle.cx_rule.proofs.part.Part.put_scalars.Given as goal

abbrev pub invariant-writes : goal.invariant-writes
invariant-writes l = ScalarsTo l.initial.self l.self l.writes
    (numbers_staged l.staged (length l.writes) l.at) l.k
