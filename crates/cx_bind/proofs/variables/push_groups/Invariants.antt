use Rattle.std.proofs.Common.{◌≡◌, ◌++◌, take, map}
use Rattle.std.specs.List.{flat_map}
use Rattle.cx_bind.specs.Variables.{copies, info_of}
use Rattle.cx_bind.proofs.variables.push_groups.Given as goal

abbrev pub invariant-groups : goal.invariant-groups
invariant-groups l = l.infos
    ≡ l.fn.infos ++ flat_map
    (λ g. flat_map (λ name. map (info_of l.thorn g name) (copies g.copies)) g.variables)
    (take l.group-index l.groups)
