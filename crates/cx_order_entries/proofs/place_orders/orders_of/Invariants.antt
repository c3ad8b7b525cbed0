use Rattle.std.proofs.Common.{map}
use Rattle.cx_order_entries.specs.Seen.{seen_entry}
use Rattle.cx_order_entries.proofs.OrderLaws.{Sofar}
use Rattle.cx_order_entries.proofs.place_orders.orders_of.Given as goal

abbrev pub invariant-places : goal.invariant-places
invariant-places l = Sofar (map seen_entry l.entries) l.place l.orders
