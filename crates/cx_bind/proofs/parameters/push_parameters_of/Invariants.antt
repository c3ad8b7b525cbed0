use Rattle.std.proofs.Common.{◌≡◌, ◌++◌, take, map}
use Rattle.std.specs.List.{flat_map}
use Rattle.cx_bind.specs.Parameters.{extended, declared_as}
use Rattle.cx_bind.proofs.parameters.push_parameters_of.Given as goal

abbrev pub invariant-decls : goal.invariant-decls
invariant-decls l = l.params
    ≡ l.fn.params ++ flat_map (λ d. map (extended l.extensions) (declared_as l.number l.thorn d))
    (take l.decl-index l.decls)
