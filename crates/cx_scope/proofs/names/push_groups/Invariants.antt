use Rattle.std.proofs.Common.{◌≡◌, ◌++◌, take, map}
use Rattle.std.specs.List.{enumerate_from}
use Rattle.cx_scope.specs.Names.{named_group}
use Rattle.cx_scope.proofs.names.push_groups.Given as goal

abbrev pub invariant-groups : goal.invariant-groups
invariant-groups l = l.named
    ≡ l.fn.named ++ map (named_group (l.number, l.thorn)) (enumerate_from 0 (take l.place l.groups))
