use Rattle.std.proofs.Common.{◌≡◌, ◌++◌, take}
use Rattle.std.specs.List.{flat_map}
use Rattle.cx_scope.specs.Names.{copies_of}
use Rattle.cx_scope.proofs.names.push_names.Given as goal

abbrev pub invariant-names : goal.invariant-names
invariant-names l = l.named
    ≡ l.fn.named ++ flat_map (copies_of l.group l.copies) (take l.name-index l.names)
