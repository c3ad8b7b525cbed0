use Rattle.std.proofs.Common.{map, arith}
use Rattle.cx_order_entries.specs.Members.{entries_of}
use Rattle.cx_order_entries.specs.Seen.{seen_entry}
use Rattle.cx_order_entries.proofs.PairLaws.{length-lent}
use Rattle.cx_order_entries.proofs.OrderLaws.{no-name}
use Rattle.cx_order_entries.proofs.place_orders.push_name.Goals as goal

pub returns : goal.returns
returns c =
    let size = length-lent c.args.entries.now c.args.members.now c.requires in
    let past = c.if-number-members.false in
    no-name (entries_of (map seen_entry c.args.entries.now) c.args.members.now)
    c.args.number c.args.names.now (omega (arith, size, past))
