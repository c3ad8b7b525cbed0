use Rattle.std.proofs.Common.{◌≡◌, ◌++◌, take, map}
use Rattle.std.specs.List.{flat_map}
use Rattle.cx_bind.specs.Variables.{copies, info_of}
use Rattle.cx_bind.proofs.variables.push_names.Given as goal

abbrev pub invariant-names : goal.invariant-names
invariant-names l = l.infos
    ≡ l.fn.infos ++ flat_map (λ name. map (info_of l.thorn l.group name) (copies l.group.copies))
    (take l.name-index l.names)
