use Rattle.std.proofs.Common.{◌≡◌, ◌∙◌, sym, ap, cond, Bool, Ok}
use Rattle.cx_order_entries.specs.Counted.{lines_alone, block_alone, one_counted, counted_of}
use Rattle.cx_order_entries.proofs.CountedLaws.{adds-alone, adds-same, branch}
use Rattle.cx_order_entries.proofs.counted.+count.Goals as goal

pub push_node-returns-in-Storage : goal.push_node-returns-in-Storage
push_node-returns-in-Storage g t c =
    adds-alone (lines_alone c.args.thorn c.as_slice.result.now)
    (one_counted c.args.thorn (g.L.Lookup.finds c.args.names.now) c.args.node.now)
    c.args.counted.now c.push_lines.new.counted c.push_lines.result c.unless_memory.result
    (ap (one_counted c.args.thorn (g.L.Lookup.finds c.args.names.now)) c.in-Storage.is
    ∙ ap (λ s. Ok (lines_alone c.args.thorn s)) (sym c.as_slice.ensures))
    c.push_lines.ensures c.unless_memory.ensures

pub push_node-returns-in-Block : goal.push_node-returns-in-Block
push_node-returns-in-Block g t c =
    adds-alone (block_alone c.args.thorn c.in-Block.block)
    (one_counted c.args.thorn (g.L.Lookup.finds c.args.names.now) c.args.node.now)
    c.args.counted.now c.push_block.new.counted c.push_block.result
    c.unless_memory-in-Block.result
    (ap (one_counted c.args.thorn (g.L.Lookup.finds c.args.names.now)) c.in-Block.is)
    c.push_block.ensures c.unless_memory-in-Block.ensures

pub push_node-returns-in-Ok-true : goal.push_node-returns-in-Ok-true
push_node-returns-in-Ok-true g t c =
    let names = g.L.Lookup.finds c.args.names.now in
    let nodes = c.as_slice-in-Ok-true.result.now in
    let b = c.in-Ok-true.field-0 in
    let value = c.in-Ok-true.ensures.ok in
    let picked : nodes ≡ cond b c.in-Cond.yes c.in-Cond.no =
    c.as_slice-in-Ok-true.ensures
    ∙ ap (λ (t : Bool). cond t c.in-Cond.yes c.in-Cond.no) (sym c.in-Ok-true.field-0-test) in
    adds-same (one_counted c.args.thorn names c.args.node.now) (counted_of c.args.thorn names nodes)
    c.args.counted.now c.push_nodes.new.counted c.push_nodes.result
    (branch c.args.thorn names c.in-Cond.test c.in-Cond.yes c.in-Cond.no nodes c.args.node.now
    value.0 b c.in-Cond.is value.1 value.2 picked)
    c.push_nodes.ensures

pub push_node-returns-in-Ok-false : goal.push_node-returns-in-Ok-false
push_node-returns-in-Ok-false g t c =
    let names = g.L.Lookup.finds c.args.names.now in
    let nodes = c.as_slice-in-Ok-false.result.now in
    let b = c.in-Ok-false.field-0 in
    let value = c.in-Ok-false.ensures.ok in
    let picked : nodes ≡ cond b c.in-Cond.yes c.in-Cond.no =
    c.as_slice-in-Ok-false.ensures
    ∙ ap (λ (t : Bool). cond t c.in-Cond.yes c.in-Cond.no) (sym c.in-Ok-false.field-0-test) in
    adds-same (one_counted c.args.thorn names c.args.node.now) (counted_of c.args.thorn names nodes)
    c.args.counted.now c.push_nodes-in-Ok-false.new.counted c.push_nodes-in-Ok-false.result
    (branch c.args.thorn names c.in-Cond.test c.in-Cond.yes c.in-Cond.no nodes c.args.node.now
    value.0 b c.in-Cond.is value.1 value.2 picked)
    c.push_nodes-in-Ok-false.ensures
