use Rattle.std.proofs.Common.{◌≡◌, map, take}
use Rattle.thorns_tests.specs.Fields.{touch_of}
use Rattle.thorns_tests.proofs.fields.touches.Given as goal

abbrev pub invariant-wants : goal.invariant-wants
invariant-wants l = l.touches ≡ map touch_of (take l.want-index l.wants)
