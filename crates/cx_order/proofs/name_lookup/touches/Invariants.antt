-- what the names that were passed mean, and then the others
use Rattle.std.proofs.Common.{◌≡◌, drop}
use Rattle.cx_order.specs.Meanings.{touches_of, meant}
use Rattle.cx_order.specs.Worlds.{world_of}
use Rattle.cx_order.proofs.Joined.{behind, joined}
use Rattle.cx_order.proofs.name_lookup.touches.Given as goal

abbrev pub invariant-names : goal.invariant-names
invariant-names l =
    behind l.touches.items (joined (λ r. touches_of r.1 (meant (world_of l.context) l.thorn r.0))
    (drop l.name-index l.names))
    ≡ joined (λ r. touches_of r.1 (meant (world_of l.context) l.thorn r.0)) l.names
