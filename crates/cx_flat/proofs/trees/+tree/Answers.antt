use Rattle.cx_plan.specs.Setups.{setup_of}
use Rattle.cx_flat.proofs.FlattenLaws.{seq_pushed, if_pushed, while_pushed}
use Rattle.cx_flat.proofs.trees.+tree.Goals as goal

pub push_tree-returns-in-Seq : goal.push_tree-returns-in-Seq
push_tree-returns-in-Seq t c =
    seq_pushed (setup_of c.args.job.now)
    c.args.tree.now c.in-Seq.trees c.as_slice.result.now c.push_trees.result
    c.args.ops.now.items c.push_trees.new.ops.items
    c.in-Seq.is c.as_slice.ensures c.push_trees.ensures

pub push_tree-returns-in-If : goal.push_tree-returns-in-If
push_tree-returns-in-If t c =
    if_pushed (setup_of c.args.job.now)
    c.args.tree.now c.in-If.variable c.in-If.path c.in-If.work c.get.result.now c.push_if.result
    c.args.ops.now.items c.push_if.new.ops.items
    c.in-If.is c.get.ensures c.push_if.ensures

pub push_tree-returns-in-While : goal.push_tree-returns-in-While
push_tree-returns-in-While t c =
    while_pushed (setup_of c.args.job.now)
    c.args.tree.now c.in-While.variable c.in-While.path c.in-While.work
    c.get-in-While.result.now c.push_while.result c.args.ops.now.items
    c.push_while.new.ops.items
    c.in-While.is c.get-in-While.ensures c.push_while.ensures
