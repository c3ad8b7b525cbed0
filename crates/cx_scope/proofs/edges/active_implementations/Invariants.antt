use Rattle.std.proofs.Common.{◌≡◌, take, map}
use Rattle.cx_bind.specs.declared.thorns.Thorn.{Thorn}
use Rattle.cx_scope.proofs.edges.active_implementations.Given as goal

abbrev pub invariant-thorns : goal.invariant-thorns
invariant-thorns l = l.names
    ≡ map (λ (t : Thorn). t.interface.implements) (take l.thorn-index l.thorns)
