use Rattle.std.proofs.Common.{◌≡◌, ℕ, List, ◌||◌, drop}
use Rattle.cx_bind.specs.NameSets.{has}
use Rattle.cx_bind.specs.Faults.{is_active}
use Rattle.cx_bind.proofs.active.thorn_names.Given as goal

abbrev pub invariant-providers : goal.invariant-providers
invariant-providers l = (o : List ℕ)
    → (has l.names o || is_active (drop l.provider-index l.providers) o) ≡ is_active l.providers o
