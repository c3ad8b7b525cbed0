use Rattle.std.proofs.Common.{◌≡◌, map, take}
use Rattle.cx_order.specs.Meanings.{meaning}
use Rattle.cx_order_entries.specs.Seen.{seen_entry}
use Rattle.cx_order.specs.Worlds.{world_of}
use Rattle.cx_order.proofs.name_lookup.meanings.Given as goal

abbrev pub invariant-entries : goal.invariant-entries
invariant-entries l = l.meanings.items
    ≡ map (meaning (world_of l.context)) (map seen_entry (take l.entry-index l.entries))
