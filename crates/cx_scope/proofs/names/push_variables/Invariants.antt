use Rattle.std.proofs.Common.{◌≡◌, ◌++◌, take}
use Rattle.std.specs.List.{flat_map, enumerate_from}
use Rattle.cx_scope.specs.Names.{variables_in}
use Rattle.cx_scope.proofs.names.push_variables.Given as goal

abbrev pub invariant-groups : goal.invariant-groups
invariant-groups l = l.named
    ≡ l.fn.named ++ flat_map (variables_in (l.number, l.thorn))
    (enumerate_from 0 (take l.place l.groups))
