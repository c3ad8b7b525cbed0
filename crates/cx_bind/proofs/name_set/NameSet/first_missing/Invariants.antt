use Rattle.std.proofs.Common.{◌≡◌, find, not, drop}
use Rattle.cx_bind.specs.NameSets.{has}
use Rattle.cx_bind.proofs.name_set.NameSet.first_missing.Given as goal

abbrev pub invariant-names : goal.invariant-names
invariant-names l = find (λ name. not (has l.self name)) (drop l.name-index l.names)
    ≡ find (λ name. not (has l.self name)) l.names
