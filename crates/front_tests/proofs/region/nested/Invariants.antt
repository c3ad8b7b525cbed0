-- so many WHILEs stand in one another
use Rattle.std.proofs.Common.{◌≡◌}
use Rattle.front_tests.specs.RegionSamples.{whiles}
use Rattle.front_tests.proofs.region.nested.Given as goal

abbrev pub invariant-layers : goal.invariant-layers
invariant-layers l = l.tree ≡ whiles l.counter l.fn.work
