use Rattle.std.proofs.Common.{map}
use Rattle.cx_order_entries.proofs.NestedLaws.{names-more}
use Rattle.cx_order_entries.proofs.nesting.names_of.Goals as goal

pub numbers-preserved : goal.numbers-preserved
numbers-preserved c =
    names-more (map (λ name. name.now) c.args.groups.now)
    c.args.numbers.now c.numbers.number-index c.numbers.names c.push_name.new.names
    c.numbers-test.true c.in_ok-push_name.ensures c.numbers.invariant
