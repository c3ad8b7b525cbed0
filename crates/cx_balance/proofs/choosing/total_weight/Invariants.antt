use Rattle.std.proofs.Common.{◌≡◌, take}
use Rattle.cx_cut.specs.Axis.{sum_of}
use Rattle.cx_balance.proofs.choosing.total_weight.Given as goal

abbrev pub invariant-planes : goal.invariant-planes
invariant-planes l = l.total ≡ sum_of (take l.plane-index l.planes)
