use Rattle.std.proofs.Common.{◌≡◌, ◌++◌, take, map}
use Rattle.std.specs.List.{flat_map}
use Rattle.cx_bind.specs.Parameters.{declared_as, known_by}
use Rattle.cx_bind.proofs.known.push_thorns.Given as goal

abbrev pub invariant-thorns : goal.invariant-thorns
invariant-thorns l = l.knowns
    ≡ l.fn.knowns ++ flat_map (λ t. flat_map (λ d. map known_by (declared_as 0 t d)) t.params)
    (take l.thorn-index l.thorns)
