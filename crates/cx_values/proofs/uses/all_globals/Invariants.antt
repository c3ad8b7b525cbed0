use Rattle.std.proofs.Common.{◌≡◌, take}
use Rattle.std.specs.List.{flat_map, enumerate_from}
use Rattle.cx_values.specs.Assigned.{global_use}
use Rattle.cx_values.proofs.uses.all_globals.Given as goal

abbrev pub invariant-params : goal.invariant-params
invariant-params l = l.globals ≡ flat_map global_use (enumerate_from 0 (take l.parameter l.params))
