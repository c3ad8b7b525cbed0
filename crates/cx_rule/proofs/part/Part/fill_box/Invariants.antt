use Rattle.std.proofs.Common.{◌≡◌, length}
use Rattle.cx_rule.specs.Patches.{IsGridLevel}
use Rattle.cx_rule.specs.Filling.{FilledTo}
use Rattle.cx_rule.proofs.part.Part.fill_box.Given as goal

abbrev pub invariant-points : goal.invariant-points
invariant-points l = IsGridLevel l.self l.v 0 × FilledTo l.initial.self l.self l.v l.b l.values l.at
    × (l.at ≡ length l.yielded)
