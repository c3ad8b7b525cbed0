use Rattle.std.proofs.Common.{◌≡◌, ◌≤◌, max, length}
use Rattle.cx_rule.specs.Buffers.{counted}
use Rattle.cx_rule.proofs.levels.Level.set_zeros.Given as goal

abbrev pub invariant-places : goal.invariant-places
invariant-places l = (counted l.at l.self ≡ counted l.from l.initial.self)
    × (length l.self ≡ length l.initial.self) × (l.at ≤ max l.from l.to)
