use Rattle.cx_rule.proofs.PutLaws.{PutTo}
use Rattle.cx_rule.proofs.RowLaws.{SpentTo}
use Rattle.cx_rule.proofs.part.Part.put_levels.Given as goal

abbrev pub invariant-writes : goal.invariant-writes
invariant-writes l = PutTo l.initial.self l.self l.zone l.initial.staged l.writes l.k
    × SpentTo l.k l.initial.staged l.staged
