use Rattle.std.proofs.Common.{sym, subst, ℕ, ◌+◌, List, add-one}
use Rattle.cx_plan.specs.declared.tree.Tree.{Tree}
use Rattle.cx_plan.specs.Lookups.{bin_count}
use Rattle.cx_order.specs.Plans.{Forest, bin_forest, forests}
use Rattle.cx_order.specs.PlanSteps.{world_in, entries_in, orders_in}
use Rattle.cx_order.proofs.PlanLaws.{BinsPassed, bins-next, bins-room, bins_from, bins_from-next}
use Rattle.cx_order.proofs.planning.plan_bins.Goals as goal

pub bins-preserved : goal.bins-preserved
bins-preserved c =
    let s = c.args.source.now in
    let w = world_in s in
    let one : ℕ → Forest = bin_forest (entries_in s) (orders_in s) in
    let all = forests (entries_in s) (orders_in s) in
    let b = c.bins.bin in
    let P : List Tree → Type 0 =
    λ made. BinsPassed w (b + 1) c.args.made.now c.plan_bin.new.made made all
    (bins_from one bin_count (b + 1)) in
    subst P (sym {A = List Tree} c.in_ok-push.ensures.items)
    (bins-next w b (b + 1) c.args.made.now c.bins.made c.plan_bin.new.made c.bins.trees.items
    c.in_ok-tree.tree (one b) all (bins_from one bin_count b) (bins_from one bin_count (b + 1))
    (add-one b) (bins_from-next one bin_count b c.bins-test.true)
    c.in_ok-tree.ensures c.bins.invariant)

pub plan_bin-requires-clause-few : goal.plan_bin-requires-clause-few
plan_bin-requires-clause-few c =
    let s = c.args.source.now in
    let one : ℕ → Forest = bin_forest (entries_in s) (orders_in s) in
    let b = c.bins.bin in
    bins-room (world_in s) b c.args.made.now c.bins.made c.bins.trees.items (one b)
    (forests (entries_in s) (orders_in s)) (bins_from one bin_count b)
    (bins_from one bin_count (b + 1))
    (bins_from-next one bin_count b c.bins-test.true) c.bins.invariant c.requires.few
