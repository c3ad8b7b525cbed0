use Rattle.std.proofs.Common.{◌∙◌, length, sym, ap, map}
use Rattle.cx_order_least.specs.Orders.{pair_before}
use Rattle.cx_order_entries.specs.Members.{entries_of}
use Rattle.cx_order_entries.specs.Seen.{seen_entry}
use Rattle.cx_order_entries.proofs.PairLaws.{length-lent}
use Rattle.cx_order_entries.proofs.OrderLaws.{sorted-as}
use Rattle.cx_order_entries.proofs.place_orders.sorted_at.Goals as goal

pub returns : goal.returns
returns c =
    sorted-as (entries_of (map seen_entry c.args.entries.now) c.args.members.now) c.deref.result.now
    (length c.args.members.now)
    c.in_ok-names.names c.least_order.result c.requires.differ c.in_ok-names.ensures
    (λ a b. ap (λ ps. pair_before ps a b) c.deref.ensures.value ∙ c.in_ok-pairs.ensures a b)
    (sym (length-lent c.args.entries.now c.args.members.now c.requires.within))
    c.least_order.ensures
