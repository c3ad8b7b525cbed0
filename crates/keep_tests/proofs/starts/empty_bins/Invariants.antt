use Rattle.std.proofs.Common.{◌≡◌, replicate}
use Rattle.keep_tests.specs.Samples.{nothing}
use Rattle.keep_tests.proofs.starts.empty_bins.Given as goal

abbrev pub invariant-bins : goal.invariant-bins
invariant-bins l = l.bins.items ≡ replicate l.counter nothing
