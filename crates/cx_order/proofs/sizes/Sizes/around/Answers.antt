-- A tree around others is one node and one level more.
use Rattle.cx_plan.specs.declared.tree.Tree.{Seq, If, While}
use Rattle.std.proofs.Common.{[], ◌∷◌}
use Rattle.cx_order.proofs.SizeLaws.{nodes-Seq, depth-Seq, around-sizes, nodes-around, depth-around, nodes-If, depth-If, nodes-While, depth-While}
use Rattle.cx_order.proofs.sizes.Sizes.around.Goals as goal

pub returns-clause-sequence : goal.returns-clause-sequence
returns-clause-sequence c =
    λ trees i. around-sizes (Seq trees) trees c.args.self _ (nodes-Seq trees) (depth-Seq trees)
    c.saturating_add.ensures c.saturating_add-2.ensures i

pub returns-clause-if_tree : goal.returns-clause-if_tree
returns-clause-if_tree c =
    λ v path tree i.
    around-sizes (If v path tree) (tree ∷ []) c.args.self _
    (nodes-around (If v path tree) tree (nodes-If v path tree))
    (depth-around (If v path tree) tree (depth-If v path tree))
    c.saturating_add.ensures c.saturating_add-2.ensures i

pub returns-clause-while_tree : goal.returns-clause-while_tree
returns-clause-while_tree c =
    λ v path tree i.
    around-sizes (While v path tree) (tree ∷ []) c.args.self _
    (nodes-around (While v path tree) tree (nodes-While v path tree))
    (depth-around (While v path tree) tree (depth-While v path tree))
    c.saturating_add.ensures c.saturating_add-2.ensures i
