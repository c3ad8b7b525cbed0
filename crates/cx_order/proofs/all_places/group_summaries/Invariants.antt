-- what is known of the groups from a place in their order on
use Rattle.std.proofs.Common.{map, drop}
use Rattle.cx_order_entries.specs.Seen.{seen_entry}
use Rattle.cx_order.proofs.SummedPlaces.{Turn}
use Rattle.cx_order.proofs.all_places.group_summaries.Given as goal

abbrev pub invariant-groups : goal.invariant-groups
invariant-groups l = Turn l.meanings (map seen_entry l.entries) l.placed l.table.items
    (drop l.at l.placed.nested)
