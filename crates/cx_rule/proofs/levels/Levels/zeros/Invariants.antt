use Rattle.std.proofs.Common.{◌≡◌, pos, replicate}
use Rattle.cx_rule.proofs.levels.Levels.zeros.Given as goal

abbrev pub invariant-levels : goal.invariant-levels
invariant-levels l = l.all.items ≡ replicate l.counter (replicate l.numbers (pos 0))
