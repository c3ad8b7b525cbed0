use Rattle.std.proofs.Common.{◌≡◌, ◌++◌, take}
use Rattle.std.specs.List.{flat_map, enumerate_from}
use Rattle.cx_values.specs.Assigned.{own_use}
use Rattle.cx_values.proofs.uses.push_all_own.Given as goal

abbrev pub invariant-params : goal.invariant-params
invariant-params l = l.uses
    ≡ l.fn.uses ++ flat_map (own_use l.thorn) (enumerate_from 0 (take l.parameter l.params))
