use Rattle.std.proofs.Common.{◌∙◌, sym, ap, append-nil}
use Rattle.std.specs.List.{flat_map}
use Rattle.cx_plan.specs.Lookups.{called}
use Rattle.cx_region.proofs.CalledLaws.{called-seq, called-if, called-while, marks-same, marks-next}
use Rattle.cx_region.proofs.called.+tree.Goals as goal

pub mark_tree-returns-in-Seq : goal.mark_tree-returns-in-Seq
mark_tree-returns-in-Seq t c =
    marks-same (flat_map called c.as_slice.result.now) (called c.args.tree.now)
    c.args.marks.now c.mark_trees.new.marks
    (ap (flat_map called) c.as_slice.ensures ∙ sym (called-seq c.in-Seq.trees)
    ∙ ap called (sym c.in-Seq.is)) c.mark_trees.ensures

pub mark_tree-returns-in-If : goal.mark_tree-returns-in-If
mark_tree-returns-in-If t c =
    marks-same (called c.get.result.now) (called c.args.tree.now)
    c.args.marks.now c.mark_tree.new.marks
    (ap called c.get.ensures ∙ sym (append-nil (called c.in-If.work))
    ∙ sym (called-if c.in-If.field-0 c.in-If.field-1 c.in-If.work) ∙ ap called (sym c.in-If.is))
    c.mark_tree.ensures

pub mark_tree-returns-in-While : goal.mark_tree-returns-in-While
mark_tree-returns-in-While t c =
    marks-same (called c.get-in-While.result.now) (called c.args.tree.now)
    c.args.marks.now c.mark_tree-in-While.new.marks
    (ap called c.get-in-While.ensures ∙ sym (append-nil (called c.in-While.work))
    ∙ sym (called-while c.in-While.field-0 c.in-While.field-1 c.in-While.work)
    ∙ ap called (sym c.in-While.is)) c.mark_tree-in-While.ensures

pub mark_trees-trees-preserved : goal.mark_trees-trees-preserved
mark_trees-trees-preserved t c =
    marks-next c.args.trees.now c.trees.tree-index c.tree-item.result c.args.marks.now c.trees.marks
    c.mark_tree.new.marks c.trees-test.true c.tree-item.is c.trees.invariant c.mark_tree.ensures
