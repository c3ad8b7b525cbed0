use Rattle.cx_thorn_pde.proofs.NearLaws.{NearSoFar}
use Rattle.cx_thorn_pde.proofs.near.are_near.Given as goal

abbrev pub invariant-numbers : goal.invariant-numbers
invariant-numbers l = NearSoFar l.numbers l.from l.i l.spread
