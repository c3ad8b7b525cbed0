use Rattle.std.proofs.Common.{◌≡◌, ◌++◌, take, map}
use Rattle.cx_bind.specs.BuiltIn.{built_in, provider}
use Rattle.cx_bind.proofs.providers.providers.Given as goal

abbrev pub invariant-thorns : goal.invariant-thorns
invariant-thorns l = l.active
    ≡ built_in ++ map (λ t. provider t.interface.implements t.name) (take l.thorn-index l.thorns)
