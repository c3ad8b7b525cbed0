use Rattle.std.proofs.Common.{map, arith}
use Rattle.cx_order_least.specs.Orders.{pair_before}
use Rattle.cx_order_entries.specs.Members.{entries_of}
use Rattle.cx_order_entries.specs.Seen.{seen_entry}
use Rattle.cx_order_entries.proofs.PairLaws.{said-next, said-all, length-lent}
use Rattle.cx_order_entries.proofs.pairs.pairs_at.Goals as goal

pub members-preserved : goal.members-preserved
members-preserved c = λ a b.
    let es = entries_of (map seen_entry c.args.entries.now) c.args.members.now in
    said-next c.args.names.now es c.members.number (seen_entry c.entry_at-entry.result.now) a b
    (pair_before c.members.pairs.items a b) (pair_before c.push_entry.new.pairs.items a b)
    c.entry_at-entry.ensures (c.members.invariant a b) (c.in_ok-push_entry.ensures a b)

pub returns : goal.returns
returns c = λ a b.
    let es = entries_of (map seen_entry c.args.entries.now) c.args.members.now in
    let size = length-lent c.args.entries.now c.args.members.now c.requires in
    let past = c.members-test.false in
    said-all c.args.names.now es c.members.number (omega (arith, size, past)) a b
    (pair_before c.members.pairs.items a b) (c.members.invariant a b)
