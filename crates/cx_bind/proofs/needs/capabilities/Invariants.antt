use Rattle.std.proofs.Common.{◌≡◌, ℕ, List, ◌||◌, drop}
use Rattle.cx_bind.specs.NameSets.{has}
use Rattle.cx_bind.specs.Faults.{is_provided}
use Rattle.cx_bind.proofs.needs.capabilities.Given as goal

abbrev pub invariant-thorns : goal.invariant-thorns
invariant-thorns l = (o : List ℕ)
    → (has l.names o || is_provided (drop l.thorn-index l.thorns) o) ≡ is_provided l.thorns o
