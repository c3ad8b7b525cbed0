-- what the trees that were passed call is marked
use Rattle.std.proofs.Common.{take}
use Rattle.std.specs.List.{flat_map}
use Rattle.cx_plan.specs.Lookups.{called}
use Rattle.cx_region.specs.Marks.{Marks}
use Rattle.cx_region.proofs.called.+tree.Given as goal

abbrev pub invariant-mark_trees-trees : goal.invariant-mark_trees-trees
invariant-mark_trees-trees l =
    Marks (flat_map called (take l.tree-index l.trees)) l.fn.marks l.marks
