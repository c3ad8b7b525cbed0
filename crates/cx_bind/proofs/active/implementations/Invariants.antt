use Rattle.std.proofs.Common.{◌≡◌, ℕ, List, ◌||◌, drop}
use Rattle.cx_bind.specs.NameSets.{has}
use Rattle.cx_bind.specs.Faults.{is_implemented}
use Rattle.cx_bind.proofs.active.implementations.Given as goal

abbrev pub invariant-providers : goal.invariant-providers
invariant-providers l = (o : List ℕ)
    → (has l.names o || is_implemented (drop l.provider-index l.providers) o)
    ≡ is_implemented l.providers o
