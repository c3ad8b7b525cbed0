use Rattle.std.proofs.Common.{◌≡◌, pos, take, ltb}
use Rattle.cx_rule.specs.Runs.{are_within}
use Rattle.cx_rule.proofs.commit.are_bytes.Given as goal

abbrev pub invariant-values : goal.invariant-values
invariant-values l = ltb l.bits 256 ≡ are_within (pos 0) (pos 255) (take l.value-index l.values)
