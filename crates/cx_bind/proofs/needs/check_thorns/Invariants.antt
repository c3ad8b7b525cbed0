use Rattle.std.proofs.Common.{◌≡◌, drop}
use Rattle.cx_plan.specs.Lists.{first_of_each}
use Rattle.cx_bind.specs.declared.thorns.BindFault.TheVariants.{MissingThorn}
use Rattle.cx_bind.specs.Faults.{missing, is_active}
use Rattle.cx_bind.proofs.needs.check_thorns.Given as goal

abbrev pub invariant-loop-thorn : goal.invariant-loop-thorn
invariant-loop-thorn l =
    first_of_each (λ t. missing (λ other. MissingThorn t.name other) (is_active l.active)
    t.conf.thorns) (drop l.thorn-index l.thorns)
    ≡ first_of_each (λ t. missing (λ other. MissingThorn t.name other) (is_active l.active)
    t.conf.thorns) l.thorns
