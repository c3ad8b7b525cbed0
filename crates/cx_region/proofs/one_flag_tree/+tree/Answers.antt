use Rattle.std.proofs.Common.{◌∷◌, [], refl, sym, subst}
use Rattle.std.specs.List.{All}
use Rattle.std.proofs.lemmas.Result.{err_from_is_err_and}
use Rattle.cx_plan.specs.Regions.{Turns, Syncs}
use Rattle.cx_plan.specs.Paths.{Meets, Path, Just}
use Rattle.cx_plan.specs.Whole.{IsTree, IsStoredGrid}
use Rattle.cx_region.specs.Witnesses.{act_of}
use Rattle.cx_region_flags.proofs.PathLaws.{in-seq, in-if, in-while, in-call, in-sync, tree-at}
use Rattle.cx_region.proofs.OneFlagLaws.{goes-weaker, by-behind-letter, goes-branch, stop-branch-test, stop-branch-work, join-some, head-first, stop-while-test, stop-while-work, while-next, while-ends, once-ends, stop-once-test, stop-once-work, stop-once-again}
use Rattle.cx_region.proofs.OneFlagTreeLaws.{goes-seq, goes-call, goes-sync, goes-if, goes-while, passed-tree, stop-tree, passed-all}
use Rattle.cx_region.proofs.JoinLaws.{joins-some}
use Rattle.cx_region.proofs.LevelLaws.{fewer_after, covered-after}
use Rattle.cx_region.proofs.one_flag_tree.+tree.Goals as goal

-- ---- trees

pub follow_tree-returns-in-Seq-clause-goes : goal.follow_tree-returns-in-Seq-clause-goes
follow_tree-returns-in-Seq-clause-goes t c = λ is.
    let job = c.args.job.now in
    let trees = subst (All (IsTree job)) (sym c.as_slice.ensures)
    (in-seq job c.args.tree.now c.in-Seq.trees c.in-Seq.is is) in
    goes-seq job c.args.search.rounds c.args.search.followed c.args.tree.now c.in-Seq.trees
    c.as_slice.result.now c.args.ways.items c.follow_trees.result c.in-Seq.is c.as_slice.ensures
    (c.follow_trees.ensures.goes trees)

pub follow_tree-returns-in-Call-clause-goes : goal.follow_tree-returns-in-Call-clause-goes
follow_tree-returns-in-Call-clause-goes t c = λ is.
    let job = c.args.job.now in
    let x = c.args.search.followed in
    goes-call job c.args.search.rounds x c.args.tree.now c.in-Call.item c.args.ways.items
    c.take_all.result c.in-Call.is
    (goes-weaker job c.args.search.rounds x (Just (Meets (Turns c.in-Call.item) ∷ []))
    c.args.ways.items c.take_all.result
    (c.take_all.ensures.goes x (in-call job c.args.tree.now c.in-Call.item c.in-Call.is is)))

pub follow_tree-returns-in-Sync-clause-goes : goal.follow_tree-returns-in-Sync-clause-goes
follow_tree-returns-in-Sync-clause-goes t c = λ is.
    let job = c.args.job.now in
    let x = c.args.search.followed in
    let stored = subst (All (IsStoredGrid job)) (sym c.as_slice-in-Sync.ensures)
    (in-sync job c.args.tree.now c.in-Sync.variables c.in-Sync.path c.in-Sync.is is) in
    goes-sync job c.args.search.rounds x c.args.tree.now c.in-Sync.variables
    c.as_slice-in-Sync.result.now c.in-Sync.path c.as_slice-in-Sync-2.result.now
    c.args.ways.items c.take_all-in-Sync.result c.in-Sync.is c.as_slice-in-Sync.ensures
    c.as_slice-in-Sync-2.ensures
    (goes-weaker job c.args.search.rounds x
    (Just (Meets (Syncs c.as_slice-in-Sync.result.now c.as_slice-in-Sync-2.result.now) ∷ []))
    c.args.ways.items c.take_all-in-Sync.result (c.take_all-in-Sync.ensures.goes x stored))

pub follow_tree-returns-in-If-clause-goes : goal.follow_tree-returns-in-If-clause-goes
follow_tree-returns-in-If-clause-goes t c = λ is.
    let job = c.args.job.now in
    let parts = in-if job c.args.tree.now c.in-If.variable c.in-If.path c.in-If.work c.in-If.is
    is in
    goes-if job c.args.search.rounds c.args.search.followed c.args.tree.now c.in-If.variable
    c.in-If.path c.as_slice-in-If.result.now c.in-If.work c.get.result.now c.args.ways.items
    c.follow_if.result c.in-If.is c.as_slice-in-If.ensures c.get.ensures
    (c.follow_if.ensures.goes parts.0 (subst (IsTree job) (sym c.get.ensures) parts.1))

pub follow_tree-returns-in-While-clause-goes : goal.follow_tree-returns-in-While-clause-goes
follow_tree-returns-in-While-clause-goes t c = λ is.
    let job = c.args.job.now in
    let parts = in-while job c.args.tree.now c.in-While.variable c.in-While.path c.in-While.work
    c.in-While.is is in
    goes-while job c.args.search.rounds c.args.search.followed c.args.tree.now c.in-While.variable
    c.in-While.path c.as_slice-in-While.result.now c.in-While.work c.get-in-While.result.now
    c.args.ways.items c.follow_while.result c.in-While.is c.as_slice-in-While.ensures
    c.get-in-While.ensures
    (c.follow_while.ensures.goes parts.0 (subst (IsTree job) (sym c.get-in-While.ensures) parts.1))

pub follow_trees-trees-preserved : goal.follow_trees-trees-preserved
follow_trees-trees-preserved t c =
    record {
      some = c.in_ok-now.ensures.some;
      passed = λ are.
          let job = c.args.job.now in
          let all = c.args.trees.now in
          let is : IsTree job c.tree-item.result =
          tree-at job all c.trees.tree-index c.tree-item.result c.trees-test.true c.tree-item.is
          are in
          passed-tree job c.args.search.rounds c.args.search.followed all c.trees.tree-index
          c.tree-item.result c.args.ways.items c.trees.now.items c.in_ok-now.now.items
          c.trees-test.true c.tree-item.is (c.in_ok-now.ensures.goes is)
          (c.trees.invariant.passed are);
    }

pub follow_trees-returns-in_err-now-clause-goes : goal.follow_trees-returns-in_err-now-clause-goes
follow_trees-returns-in_err-now-clause-goes t c = λ are.
    let job = c.args.job.now in
    let all = c.args.trees.now in
    let is : IsTree job c.tree-item.result =
    tree-at job all c.trees.tree-index c.tree-item.result c.trees-test.true c.tree-item.is
    are in
    let p = err_from_is_err_and c.from_residual.result c.from_residual.ensures.1 in
    rw (p.1, p.2)
    (stop-tree job c.args.search.rounds c.args.search.followed all c.trees.tree-index
    c.tree-item.result c.args.ways.items c.trees.now.items c.in_err-now.field-0.0
    c.trees-test.true c.tree-item.is (c.in_err-now.ensures.goes is)
    (c.trees.invariant.passed are))

pub follow_trees-returns-clause-goes : goal.follow_trees-returns-clause-goes
follow_trees-returns-clause-goes t c = λ are.
    passed-all c.args.job.now c.args.search.rounds c.args.search.followed c.args.trees.now
    c.trees.tree-index c.args.ways.items c.trees.now c.trees-test.false
    (c.trees.invariant.passed are)

-- ---- a letter and the work

pub follow_work-returns-clause-goes : goal.follow_work-returns-clause-goes
follow_work-returns-clause-goes t c = λ is.
    by-behind-letter c.args.job.now c.args.search.rounds c.args.search.followed c.args.letter
    (Path c.args.work.now)
    c.args.ways.now c.in_ok-inside.inside.items c.follow_tree.result c.in_ok-inside.ensures
    (c.follow_tree.ensures.goes is)

-- ---- an IF

pub follow_if-returns-in_err-tested-clause-goes : goal.follow_if-returns-in_err-tested-clause-goes
follow_if-returns-in_err-tested-clause-goes t c = λ act is.
    let p = err_from_is_err_and c.from_residual.result c.from_residual.ensures.1 in
    rw (p.1, p.2)
    (stop-branch-test c.args.job.now (act_of c.args.test) (Path c.args.work.now)
    c.args.ways.items c.in_err-tested.field-0.0
    (c.in_err-tested.ensures.goes c.args.search.followed act))

pub follow_if-returns-in_err-taken-clause-goes : goal.follow_if-returns-in_err-taken-clause-goes
follow_if-returns-in_err-taken-clause-goes t c = λ act is.
    let x = c.args.search.followed in
    let p = err_from_is_err_and c.from_residual-in_err-taken.result
    c.from_residual-in_err-taken.ensures.1 in
    rw (p.1, p.2)
    (stop-branch-work c.args.job.now x (act_of c.args.test) (Path c.args.work.now)
    c.args.ways.items c.in_ok-tested.tested.items c.as_slice.result.now c.in_err-taken.field-0.0
    c.as_slice.ensures.value (c.in_ok-tested.ensures.goes x act)
    (c.in_err-taken.ensures.goes is))

pub follow_if-returns-clause-goes : goal.follow_if-returns-clause-goes
follow_if-returns-clause-goes t c = λ act is.
    let x = c.args.search.followed in
    goes-branch c.args.job.now c.args.search.rounds x (act_of c.args.test) (Path c.args.work.now)
    c.args.ways.items c.in_ok-tested.tested.items c.as_slice.result.now
    c.in_ok-passed.passed.items c.in_ok-taken.taken.items c.in_ok-join.field-0.items
    c.requires.whole c.as_slice.ensures.value
    (c.in_ok-tested.ensures.goes x act) (c.in_ok-taken.ensures.goes is)
    c.in_ok-passed.ensures c.in_ok-join.ensures

pub follow_if-returns-clause-some : goal.follow_if-returns-clause-some
follow_if-returns-clause-some t c =
    join-some c.args.search.followed 110 c.in_ok-tested.tested.items c.in_ok-passed.passed.items
    c.in_ok-taken.taken.items c.in_ok-join.field-0.items c.in_ok-passed.ensures
    c.in_ok-join.ensures c.in_ok-tested.ensures.some

-- ---- a WHILE that turns once at most

pub turn_once-returns-in_err-tested-clause-goes : goal.turn_once-returns-in_err-tested-clause-goes
turn_once-returns-in_err-tested-clause-goes t c = λ act is.
    let x = c.args.followed in
    let p = err_from_is_err_and c.from_residual.result c.from_residual.ensures.1 in
    rw (p.1, p.2)
    (stop-once-test c.args.job.now x (act_of c.args.test) (Path c.args.work.now)
    c.args.ways.items c.in_err-tested.field-0.0 (c.in_err-tested.ensures.goes x act))

pub turn_once-returns-in_err-turned-clause-goes : goal.turn_once-returns-in_err-turned-clause-goes
turn_once-returns-in_err-turned-clause-goes t c = λ act is.
    let x = c.args.followed in
    let p = err_from_is_err_and c.from_residual-in_err-turned.result
    c.from_residual-in_err-turned.ensures.1 in
    rw (p.1, p.2)
    (stop-once-work c.args.job.now x (act_of c.args.test) (Path c.args.work.now)
    c.args.ways.items c.in_ok-tested.tested.items c.as_slice.result.now
    c.in_err-turned.field-0.0 c.as_slice.ensures.value (c.in_ok-tested.ensures.goes x act)
    (c.in_err-turned.ensures.goes is))

pub turn_once-returns-in_err-again-clause-goes : goal.turn_once-returns-in_err-again-clause-goes
turn_once-returns-in_err-again-clause-goes t c = λ act is.
    let x = c.args.followed in
    let p = err_from_is_err_and c.from_residual-in_err-again.result
    c.from_residual-in_err-again.ensures.1 in
    rw (p.1, p.2)
    (stop-once-again c.args.job.now x (act_of c.args.test) (Path c.args.work.now)
    c.args.ways.items c.in_ok-tested.tested.items c.as_slice.result.now
    c.in_ok-turned.turned.items c.in_err-again.field-0.0 c.as_slice.ensures.value
    (c.in_ok-tested.ensures.goes x act) (c.in_ok-turned.ensures.goes is)
    (c.in_err-again.ensures.goes x act))

pub turn_once-returns-clause-goes : goal.turn_once-returns-clause-goes
turn_once-returns-clause-goes t c = λ act is.
    let x = c.args.followed in
    once-ends c.args.job.now x (act_of c.args.test) (Path c.args.work.now)
    c.args.ways.items c.in_ok-tested.tested.items c.as_slice.result.now
    c.in_ok-turned.turned.items c.in_ok-again.again.items _ _ c.in_ok-left.field-0.items
    c.as_slice.ensures.value
    (c.in_ok-tested.ensures.goes x act) (c.in_ok-turned.ensures.goes is)
    (c.in_ok-again.ensures.goes x act) refl refl c.in_ok-left.ensures.left

-- ---- a WHILE that turns until the ways settle

pub turn_until_settled-returns-in_err-first-clause-goes : goal.turn_until_settled-returns-in_err-first-clause-goes
turn_until_settled-returns-in_err-first-clause-goes t c = λ act is.
    let x = c.args.followed in
    let p = err_from_is_err_and c.from_residual.result c.from_residual.ensures.1 in
    rw (p.1, p.2)
    (stop-while-test c.args.job.now x (act_of c.args.test) (Path c.args.work.now)
    c.args.ways.items c.args.ways.items c.as_slice.result.now c.in_err-first.field-0.0
    c.as_slice.ensures.value (head-first c.args.job.now x _ c.args.ways.items)
    (c.in_err-first.ensures.goes x act))

pub turn_until_settled-returns-in_err-once-clause-goes : goal.turn_until_settled-returns-in_err-once-clause-goes
turn_until_settled-returns-in_err-once-clause-goes t c = λ act is.
    let x = c.args.followed in
    let p = err_from_is_err_and c.from_residual-in_err-once.result
    c.from_residual-in_err-once.ensures.1 in
    rw (p.1, p.2)
    (stop-while-work c.args.job.now x (act_of c.args.test) (Path c.args.work.now)
    c.args.ways.items c.args.ways.items c.as_slice.result.now c.in_ok-first.first.items
    c.as_slice-2.result.now c.in_err-once.field-0.0 c.as_slice.ensures.value
    c.as_slice-2.ensures.value
    (head-first c.args.job.now x _ c.args.ways.items) (c.in_ok-first.ensures.goes x act)
    (c.in_err-once.ensures.goes is))

pub turn_until_settled-turns-init : goal.turn_until_settled-turns-init
turn_until_settled-turns-init t c =
    record {
      some = joins-some c.args.followed c.args.ways.items c.in_ok-once.once.items
          c.in_ok-head.head.items c.in_ok-head.ensures c.requires.some;
      head = λ act is.
          let x = c.args.followed in
          while-next c.args.job.now x (act_of c.args.test) (Path c.args.work.now)
          c.args.ways.items c.args.ways.items c.as_slice.result.now c.in_ok-first.first.items
          c.as_slice-2.result.now c.in_ok-once.once.items c.in_ok-head.head.items
          c.as_slice.ensures.value c.as_slice-2.ensures.value
          (head-first c.args.job.now x _ c.args.ways.items) (c.in_ok-first.ensures.goes x act)
          (c.in_ok-once.ensures.goes is) c.in_ok-head.ensures;
    }

pub turn_until_settled-returns-in_err-tested-clause-goes : goal.turn_until_settled-returns-in_err-tested-clause-goes
turn_until_settled-returns-in_err-tested-clause-goes t c = λ act is.
    let x = c.args.followed in
    let p = err_from_is_err_and c.from_residual-in_err-tested.result
    c.from_residual-in_err-tested.ensures.1 in
    rw (p.1, p.2)
    (stop-while-test c.args.job.now x (act_of c.args.test) (Path c.args.work.now)
    c.args.ways.items c.turns.head.items c.as_slice-in-turns.result.now
    c.in_err-tested.field-0.0 c.as_slice-in-turns.ensures.value (c.turns.invariant.head act is)
    (c.in_err-tested.ensures.goes x act))

pub turn_until_settled-returns-in_err-turned-clause-goes : goal.turn_until_settled-returns-in_err-turned-clause-goes
turn_until_settled-returns-in_err-turned-clause-goes t c = λ act is.
    let x = c.args.followed in
    let p = err_from_is_err_and c.from_residual-in_err-turned.result
    c.from_residual-in_err-turned.ensures.1 in
    rw (p.1, p.2)
    (stop-while-work c.args.job.now x (act_of c.args.test) (Path c.args.work.now)
    c.args.ways.items c.turns.head.items c.as_slice-in-turns.result.now
    c.in_ok-tested.tested.items c.as_slice-in-turns-2.result.now c.in_err-turned.field-0.0
    c.as_slice-in-turns.ensures.value c.as_slice-in-turns-2.ensures.value
    (c.turns.invariant.head act is) (c.in_ok-tested.ensures.goes x act)
    (c.in_err-turned.ensures.goes is))

pub turn_until_settled-returns-then-covers-clause-goes : goal.turn_until_settled-returns-then-covers-clause-goes
turn_until_settled-returns-then-covers-clause-goes t c = λ act is.
    let x = c.args.followed in
    while-ends c.args.job.now x (act_of c.args.test) (Path c.args.work.now)
    c.args.ways.items c.turns.head.items c.as_slice-in-turns.result.now
    c.in_ok-tested.tested.items c.as_slice-in-turns-2.result.now c.in_ok-turned.turned.items
    c.in_ok-with_letter.field-0.items c.requires.whole c.as_slice-in-turns.ensures.value
    c.as_slice-in-turns-2.ensures.value
    (c.turns.invariant.head act is) (c.in_ok-tested.ensures.goes x act)
    (c.in_ok-turned.ensures.goes is)
    (covered-after x c.turns.head.items c.as_slice-in-turns-3.result.now c.in_ok-turned.turned.items
    c.as_slice-in-turns-4.result.now c.covers.result c.as_slice-in-turns-3.ensures.value
    c.as_slice-in-turns-4.ensures.value c.covers.ensures c.if-covers.true)
    c.in_ok-with_letter.ensures

pub turn_until_settled-turns-smaller : goal.turn_until_settled-turns-smaller
turn_until_settled-turns-smaller t c =
    fewer_after c.args.followed c.turns.head.items c.as_slice-in-turns-3.result.now
    c.in_ok-turned.turned.items c.as_slice-in-turns-4.result.now c.in_ok-head-2.head.items
    c.covers.result c.as_slice-in-turns-3.ensures.value c.as_slice-in-turns-4.ensures.value
    c.covers.ensures c.if-covers.false c.in_ok-head-2.ensures

pub turn_until_settled-turns-preserved : goal.turn_until_settled-turns-preserved
turn_until_settled-turns-preserved t c =
    record {
      some = joins-some c.args.followed c.turns.head.items c.in_ok-turned.turned.items
          c.in_ok-head-2.head.items c.in_ok-head-2.ensures c.turns.invariant.some;
      head = λ act is.
          let x = c.args.followed in
          while-next c.args.job.now x (act_of c.args.test) (Path c.args.work.now)
          c.args.ways.items c.turns.head.items c.as_slice-in-turns.result.now
          c.in_ok-tested.tested.items c.as_slice-in-turns-2.result.now
          c.in_ok-turned.turned.items c.in_ok-head-2.head.items
          c.as_slice-in-turns.ensures.value c.as_slice-in-turns-2.ensures.value
          (c.turns.invariant.head act is) (c.in_ok-tested.ensures.goes x act)
          (c.in_ok-turned.ensures.goes is).each c.in_ok-head-2.ensures;
    }
