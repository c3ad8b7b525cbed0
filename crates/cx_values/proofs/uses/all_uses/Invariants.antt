use Rattle.std.proofs.Common.{◌≡◌, take, map}
use Rattle.std.specs.List.{enumerate_from}
use Rattle.cx_bind.specs.NamePlaces.{place_of}
use Rattle.cx_values.specs.Assigned.{uses_of}
use Rattle.cx_values.proofs.uses.all_uses.Given as goal

abbrev pub invariant-thorns : goal.invariant-thorns
invariant-thorns l = l.all
    ≡ map (uses_of l.params (place_of l.names)) (enumerate_from 0 (take l.number l.thorns))
