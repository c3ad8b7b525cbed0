-- as many places as turns
use Rattle.std.proofs.Common.{◌≡◌, length}
use Rattle.cx_order.proofs.all_places.unknown_places.Given as goal

abbrev pub invariant-places : goal.invariant-places
invariant-places l = length l.table.items ≡ l.counter
