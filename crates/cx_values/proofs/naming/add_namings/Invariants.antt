use Rattle.std.proofs.Common.{take}
use Rattle.std.specs.List.{enumerate_from}
use Rattle.cx_values.specs.Naming.{namings_by, Adds}
use Rattle.cx_values.proofs.naming.add_namings.Given as goal

abbrev pub invariant-params : goal.invariant-params
invariant-params l = Adds (namings_by l.thorns (enumerate_from 0 (take l.place l.params)) l.way)
    l.fn.places l.places
