use Rattle.std.proofs.Common.{◌≡◌, drop}
use Rattle.cx_plan.specs.Lists.{first_of_each}
use Rattle.cx_bind.specs.Parameters.{shared_by}
use Rattle.cx_bind.specs.Faults.{missing_shared}
use Rattle.cx_bind.proofs.needs.check_lines.Given as goal

abbrev pub invariant-loop-decl : goal.invariant-loop-decl
invariant-loop-decl l = first_of_each (λ d. missing_shared l.active l.thorn (shared_by d.scope))
    (drop l.decl-index l.decls)
    ≡ first_of_each (λ d. missing_shared l.active l.thorn (shared_by d.scope)) l.decls
