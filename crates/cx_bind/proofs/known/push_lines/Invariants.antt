use Rattle.std.proofs.Common.{◌≡◌, ◌++◌, take, map}
use Rattle.std.specs.List.{flat_map}
use Rattle.cx_bind.specs.Parameters.{declared_as, known_by}
use Rattle.cx_bind.proofs.known.push_lines.Given as goal

abbrev pub invariant-decls : goal.invariant-decls
invariant-decls l = l.knowns
    ≡ l.fn.knowns ++ flat_map (λ d. map known_by (declared_as 0 l.thorn d))
    (take l.decl-index l.decls)
