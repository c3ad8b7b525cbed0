use Rattle.std.proofs.Common.{◌≡◌, map, take}
use Rattle.cx_order_entries.specs.Members.{entries_of, names_in}
use Rattle.cx_order_entries.specs.Seen.{seen_entry}
use Rattle.cx_order_entries.proofs.place_orders.names_of.Given as goal

abbrev pub invariant-numbers : goal.invariant-numbers
invariant-numbers l = l.names
    ≡ names_in (entries_of (map seen_entry l.entries) l.members) (take l.number-index l.numbers)
