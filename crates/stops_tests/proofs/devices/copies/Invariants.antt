use Rattle.std.proofs.Common.{◌≡◌, take}
use Rattle.stops_tests.proofs.devices.copies.Given as goal

abbrev pub invariant-each : goal.invariant-each
invariant-each l = l.copy.items ≡ take l.text-index l.texts
