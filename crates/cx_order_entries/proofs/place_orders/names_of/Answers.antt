use Rattle.std.proofs.Common.{map}
use Rattle.cx_order_entries.specs.Members.{entries_of}
use Rattle.cx_order_entries.specs.Seen.{seen_entry}
use Rattle.cx_order_entries.proofs.OrderLaws.{names-more}
use Rattle.cx_order_entries.proofs.place_orders.names_of.Goals as goal

pub numbers-preserved : goal.numbers-preserved
numbers-preserved c =
    names-more (entries_of (map seen_entry c.args.entries.now) c.args.members.now)
    c.args.numbers.now c.numbers.number-index c.numbers.names c.push_name.new.names
    c.numbers-test.true c.in_ok-push_name.ensures c.numbers.invariant
