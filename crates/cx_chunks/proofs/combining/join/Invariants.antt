use Rattle.cx_chunks.specs.Combining.{values_in}
use Rattle.cx_chunks.proofs.JoinLaws.{ArePut}
use Rattle.cx_chunks.proofs.combining.join.Given as goal

abbrev pub invariant-parts : goal.invariant-parts
invariant-parts l = ArePut l.cut (values_in l.chunks l.full l.iteration) l.part l.level.items
