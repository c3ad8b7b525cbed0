use Rattle.std.proofs.Common.{◌≡◌, map, take}
use Rattle.cx_rule.specs.Patches.{zeros}
use Rattle.cx_rule.proofs.part.zero_levels.Given as goal

abbrev pub invariant-vars : goal.invariant-vars
invariant-vars l = l.all.items ≡ map (zeros l.b) (take l.info-index l.vars)
