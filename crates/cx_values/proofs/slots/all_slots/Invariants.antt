use Rattle.std.proofs.Common.{◌≡◌, take, map}
use Rattle.cx_values.specs.Assigned.{slot}
use Rattle.cx_values.proofs.slots.all_slots.Given as goal

abbrev pub invariant-params : goal.invariant-params
invariant-params l = l.slots ≡ map (slot l.dir) (take l.param-index l.params)
