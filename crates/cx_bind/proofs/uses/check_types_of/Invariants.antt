use Rattle.std.proofs.Common.{◌≡◌, drop}
use Rattle.cx_plan.specs.Lists.{first_of_each}
use Rattle.cx_bind.specs.Parameters.{shared_by}
use Rattle.cx_bind.specs.Faults.{wrong_type_by}
use Rattle.cx_bind.proofs.uses.check_types_of.Given as goal

abbrev pub invariant-loop-decl : goal.invariant-loop-decl
invariant-loop-decl l = first_of_each (λ d. wrong_type_by l.table l.thorn d (shared_by d.scope))
    (drop l.decl-index l.decls)
    ≡ first_of_each (λ d. wrong_type_by l.table l.thorn d (shared_by d.scope)) l.decls
