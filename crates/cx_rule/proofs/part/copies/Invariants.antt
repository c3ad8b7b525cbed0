use Rattle.std.proofs.Common.{◌≡◌, take}
use Rattle.cx_rule.proofs.part.copies.Given as goal

abbrev pub invariant-vars : goal.invariant-vars
invariant-vars l = l.all ≡ take l.info-index l.vars
