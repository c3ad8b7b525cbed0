use Rattle.std.proofs.Common.{◌-◌, length}
use Rattle.cx_balance.specs.Walking.{HasWalked}
use Rattle.cx_balance.proofs.choosing.reach.Given as goal

abbrev pub invariant-planes : goal.invariant-planes
invariant-planes l = HasWalked l.planes l.parts l.goal l.walk.end l.walk.weight

abbrev pub decreases-planes : goal.decreases-planes
decreases-planes l = length l.planes - l.walk.end
