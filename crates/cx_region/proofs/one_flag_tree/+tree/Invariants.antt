-- what comes of the trees that are left comes of all; and the ways of a head have come from the
-- first ones
use Rattle.std.proofs.Common.{◌≤◌, length, drop}
use Rattle.std.specs.List.{All}
use Rattle.cx_plan.specs.Paths.{Path}
use Rattle.cx_plan.specs.Whole.{IsTree}
use Rattle.cx_region_flags.specs.AllPaths.{PathOfTrees}
use Rattle.cx_region_flags.specs.Agreeing.{IsAct}
use Rattle.cx_region.specs.Witnesses.{act_of}
use Rattle.cx_region.proofs.OneFlagLaws.{Passed, AnyTimes, OneTurn, LastTest, IsHead}
use Rattle.cx_region.proofs.LevelLaws.{set_everywhere}
use Rattle.cx_region.proofs.one_flag_tree.+tree.Given as goal

abbrev pub invariant-follow_trees-trees : goal.invariant-follow_trees-trees
invariant-follow_trees-trees l =
    record {
      some : 1 ≤ length l.now.items;
      passed : All (IsTree l.job) l.trees
          → Passed l.job l.search.rounds l.search.followed (PathOfTrees l.trees)
          (PathOfTrees (drop l.tree-index l.trees)) l.fn.ways.items l.now.items;
    }

abbrev pub invariant-turn_until_settled-turns : goal.invariant-turn_until_settled-turns
invariant-turn_until_settled-turns l =
    record {
      some : 1 ≤ length l.head.items;
      head : IsAct l.job (act_of l.test) → IsTree l.job l.work
          → IsHead l.job l.followed
          (AnyTimes (OneTurn (act_of l.test) (Path l.work)) (LastTest (act_of l.test)))
          l.fn.ways.items l.head.items;
    }

abbrev pub decreases-turn_until_settled-turns : goal.decreases-turn_until_settled-turns
decreases-turn_until_settled-turns l = set_everywhere l.followed l.head.items
