use Rattle.std.proofs.Common.{◌≡◌}
use Rattle.thorns_tests.specs.Fields.{IsSamePart}
use Rattle.thorns_tests.proofs.fields.fill.Given as goal

abbrev pub invariant-points : goal.invariant-points
invariant-points l = IsSamePart l.patch l.initial.patch × (l.local ≡ l.initial.patch.local)
