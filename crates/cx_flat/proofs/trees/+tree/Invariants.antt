-- the operations so far, and those of the trees that are left, are all
use Rattle.std.proofs.Common.{drop}
use Rattle.cx_plan.specs.Setups.{setup_of}
use Rattle.cx_flat.proofs.FlattenLaws.{Pushed}
use Rattle.cx_flat.proofs.trees.+tree.Given as goal

abbrev pub invariant-push_trees-trees : goal.invariant-push_trees-trees
invariant-push_trees-trees l =
    Pushed (setup_of l.job) l.trees (drop l.tree-index l.trees) l.fn.ops.items l.ops.items
