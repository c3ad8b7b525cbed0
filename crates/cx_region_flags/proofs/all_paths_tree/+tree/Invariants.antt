-- where the trees that are left lead, all lead; and flags have only fallen
use Rattle.std.proofs.Common.{drop}
use Rattle.std.specs.List.{All}
use Rattle.cx_plan.specs.Whole.{IsTree}
use Rattle.cx_region_flags.specs.AllPaths.{IsBelow}
use Rattle.cx_region_flags.proofs.FallLaws.{set_count}
use Rattle.cx_region_flags.proofs.PathLaws.{Passing}
use Rattle.cx_region_flags.proofs.all_paths_tree.+tree.Given as goal

abbrev pub invariant-walk_trees-trees : goal.invariant-walk_trees-trees
invariant-walk_trees-trees l = All (IsTree l.job) l.trees
    → Passing l.job l.trees (drop l.tree-index l.trees) l.fn.table l.table

abbrev pub invariant-walk_while-turns : goal.invariant-walk_while-turns
invariant-walk_while-turns l = IsBelow l.table l.fn.table

abbrev pub decreases-walk_while-turns : goal.decreases-walk_while-turns
decreases-walk_while-turns l = set_count l.table
