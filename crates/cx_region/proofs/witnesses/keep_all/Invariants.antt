-- what is kept is some of what was kept and of the ways that were passed
use Rattle.cx_region.specs.Witnesses.{Joins}
use Rattle.cx_region.proofs.witnesses.keep_all.Given as goal

abbrev pub invariant-ways : goal.invariant-ways
invariant-ways l = Joins l.followed l.fn.kept.items l.yielded l.kept.items
