use Rattle.std.proofs.Common.{◌≡◌, take}
use Rattle.cx_rule.specs.Runs.{are_within}
use Rattle.cx_rule.proofs.commit.all_within.Given as goal

abbrev pub invariant-values : goal.invariant-values
invariant-values l = l.all ≡ are_within l.low l.high (take l.value-index l.values)
