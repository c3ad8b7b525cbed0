use Rattle.std.proofs.Common.{◌∙◌, sym, subst, []}
use Rattle.std.specs.List.{All}
use Rattle.cx_plan.specs.Regions.{Tests}
use Rattle.cx_plan.specs.Paths.{Path, Then, Just}
use Rattle.cx_plan.specs.Whole.{IsTree, IsStoredGrid}
use Rattle.cx_region_flags.proofs.FallLaws.{falls}
use Rattle.cx_region_flags.proofs.MeetLaws.{below-from-test}
use Rattle.cx_region_flags.proofs.AllPathsLaws.{on_ok, leads-branch, leads-turning}
use Rattle.cx_region_flags.proofs.PathLaws.{in-seq, in-if, in-while, in-call, in-sync, tree-at, leads-seq, leads-call, leads-sync, leads-if, leads-while, leads-alone, passing-next, passing-all}
use Rattle.cx_region_flags.proofs.all_paths_tree.+tree.Goals as goal

pub walk_if-returns : goal.walk_if-returns
walk_if-returns t c = λ stored is.
    let job = c.args.job.now in
    let old = c.args.table.now in
    let behind = c.in_ok-behind.behind in
    leads-branch job (Tests c.args.variable c.args.path.now) (Then (Path c.args.work.now) (Just []))
    old behind c.meet.new.self (c.in_ok-test.ensures stored)
    (leads-alone job (Path c.args.work.now) old behind (c.in_ok-behind.ensures is)) c.meet.ensures

pub walk_tree-returns-in-Seq : goal.walk_tree-returns-in-Seq
walk_tree-returns-in-Seq t c = λ is.
    let trees = subst (All (IsTree c.args.job.now)) (sym c.as_slice.ensures)
    (in-seq c.args.job.now c.args.tree.now c.in-Seq.trees c.in-Seq.is is) in
    on_ok c.walk_trees.result _ _
    (λ l. leads-seq c.args.job.now c.args.tree.now c.in-Seq.trees c.as_slice.result.now
    c.args.table.now c.walk_trees.new.table c.in-Seq.is c.as_slice.ensures l)
    (c.walk_trees.ensures trees)

pub walk_tree-returns-in-Call : goal.walk_tree-returns-in-Call
walk_tree-returns-in-Call t c = λ is.
    on_ok c.turn.result _ _
    (λ l. leads-call c.args.job.now c.args.tree.now c.in-Call.item c.args.table.now
    c.turn.new.table c.in-Call.is l)
    (c.turn.ensures (in-call c.args.job.now c.args.tree.now c.in-Call.item c.in-Call.is is))

pub walk_tree-returns-in-Sync : goal.walk_tree-returns-in-Sync
walk_tree-returns-in-Sync t c = λ is.
    let stored = subst (All (IsStoredGrid c.args.job.now)) (sym c.as_slice-in-Sync.ensures)
    (in-sync c.args.job.now c.args.tree.now c.in-Sync.variables c.in-Sync.path c.in-Sync.is is)
    in
    on_ok c.exchange.result _ _
    (λ l. leads-sync c.args.job.now c.args.tree.now c.in-Sync.variables
    c.as_slice-in-Sync.result.now c.in-Sync.path c.as_slice-in-Sync-2.result.now
    c.args.table.now c.exchange.new.table c.in-Sync.is c.as_slice-in-Sync.ensures
    c.as_slice-in-Sync-2.ensures l)
    (c.exchange.ensures stored)

pub walk_tree-returns-in-If : goal.walk_tree-returns-in-If
walk_tree-returns-in-If t c = λ is.
    let parts = in-if c.args.job.now c.args.tree.now c.in-If.variable c.in-If.path c.in-If.work
    c.in-If.is is in
    on_ok c.walk_if.result _ _
    (λ l. leads-if c.args.job.now c.args.tree.now c.in-If.variable c.in-If.path
    c.as_slice-in-If.result.now c.in-If.work c.get.result.now c.args.table.now
    c.walk_if.new.table c.in-If.is c.as_slice-in-If.ensures c.get.ensures l)
    (c.walk_if.ensures parts.0 (subst (IsTree c.args.job.now) (sym c.get.ensures) parts.1))

pub walk_tree-returns-in-While : goal.walk_tree-returns-in-While
walk_tree-returns-in-While t c = λ is.
    let parts = in-while c.args.job.now c.args.tree.now c.in-While.variable c.in-While.path
    c.in-While.work c.in-While.is is in
    on_ok c.walk_while.result _ _
    (λ l. leads-while c.args.job.now c.args.tree.now c.in-While.variable c.in-While.path
    c.as_slice-in-While.result.now c.in-While.work c.get-in-While.result.now c.args.table.now
    c.walk_while.new.table c.in-While.is c.as_slice-in-While.ensures c.get-in-While.ensures l)
    (c.walk_while.ensures parts.0
    (subst (IsTree c.args.job.now) (sym c.get-in-While.ensures) parts.1))

pub walk_trees-trees-preserved : goal.walk_trees-trees-preserved
walk_trees-trees-preserved t c = λ are.
    let is : IsTree c.args.job.now c.tree-item.result =
    tree-at c.args.job.now c.args.trees.now c.trees.tree-index c.tree-item.result
    c.trees-test.true c.tree-item.is are in
    passing-next c.args.job.now c.args.trees.now c.trees.tree-index c.tree-item.result
    c.args.table.now c.trees.table c.walk_tree.new.table c.trees-test.true c.tree-item.is
    (c.in_ok-walk_tree.ensures is) (c.trees.invariant are)

pub walk_trees-returns : goal.walk_trees-returns
walk_trees-returns t c =
    λ are. passing-all c.args.job.now c.args.trees.now c.trees.tree-index c.args.table.now
    c.trees.table c.trees-test.false (c.trees.invariant are)

pub walk_while-returns-then-is_below : goal.walk_while-returns-then-is_below
walk_while-returns-then-is_below t c = λ stored is.
    let job = c.args.job.now in
    let behind = c.in_ok-behind.behind in
    let body = c.in_ok-behind.ensures is in
    leads-turning job (Tests c.args.variable c.args.path.now)
    (Then (Path c.args.work.now) (Just []))
    c.args.table.now c.turns.table behind c.turns.invariant
    (below-from-test c.turns.table behind (sym body.same_length)
    (sym c.is_below.ensures ∙ c.if-is_below.true))
    (c.in_ok-test.ensures stored) (leads-alone job (Path c.args.work.now) c.turns.table behind body)

pub walk_while-turns-smaller : goal.walk_while-turns-smaller
walk_while-turns-smaller t c =
    falls c.turns.table c.in_ok-behind.behind c.meet-in-turns.new.self c.meet-in-turns.ensures
    (sym c.is_below.ensures ∙ c.if-is_below.false)
