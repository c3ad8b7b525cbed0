use Rattle.std.proofs.Common.{◌≡◌, ◌++◌, take}
use Rattle.std.specs.List.{flat_map}
use Rattle.cx_bind.specs.Parameters.{extension_as}
use Rattle.cx_bind.proofs.parameters.push_extensions_of.Given as goal

abbrev pub invariant-decls : goal.invariant-decls
invariant-decls l = l.extensions
    ≡ l.fn.extensions ++ flat_map (λ d. extension_as d d.scope) (take l.decl-index l.decls)
