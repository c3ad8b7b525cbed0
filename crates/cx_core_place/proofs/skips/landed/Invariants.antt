use Rattle.std.proofs.Common.{◌≡◌, ◌+◌, drop}
use Rattle.cx_core_place.specs.Skips.{landed}
use Rattle.cx_core_place.proofs.skips.landed.Given as goal

abbrev pub invariant-ops : goal.invariant-ops
invariant-ops l = landed l.ops ≡ l.place + landed (drop l.place l.ops)
