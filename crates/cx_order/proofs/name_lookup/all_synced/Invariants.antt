-- what the names that were passed mean, and then the others
use Rattle.std.proofs.Common.{◌≡◌, drop}
use Rattle.cx_order.specs.Meanings.{all_grid, meant}
use Rattle.cx_order.specs.Worlds.{world_of}
use Rattle.cx_order.proofs.Joined.{behind, joined}
use Rattle.cx_order.proofs.name_lookup.all_synced.Given as goal

abbrev pub invariant-names : goal.invariant-names
invariant-names l =
    behind l.variables.items
    (joined (λ r. all_grid (world_of l.context) r (meant (world_of l.context) l.thorn r))
    (drop l.name-index l.names))
    ≡ joined (λ r. all_grid (world_of l.context) r (meant (world_of l.context) l.thorn r)) l.names
