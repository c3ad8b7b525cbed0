use Rattle.std.proofs.Common.{map, arith}
use Rattle.std.proofs.lemmas.List.{length-map}
use Rattle.cx_order_entries.proofs.NestedLaws.{name-past}
use Rattle.cx_order_entries.proofs.nesting.push_name.Goals as goal

pub returns : goal.returns
returns c =
    let size = length-map c.args.groups.now (λ name. name.now) in
    let past = c.if-number-groups.false in
    name-past (map (λ name. name.now) c.args.groups.now) c.args.names.now c.args.number
    (omega (arith, size, past))
