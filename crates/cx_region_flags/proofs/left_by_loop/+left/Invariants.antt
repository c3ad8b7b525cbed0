-- the table keeps its size
use Rattle.std.proofs.Common.{◌≡◌, length}
use Rattle.cx_region_flags.proofs.left_by_loop.+left.Given as goal

abbrev pub invariant-leave_all-trees : goal.invariant-leave_all-trees
invariant-leave_all-trees l = length l.table ≡ length l.fn.table
