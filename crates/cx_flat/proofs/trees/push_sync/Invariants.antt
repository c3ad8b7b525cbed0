-- the directions so far
use Rattle.std.proofs.Common.{◌≡◌, ◌++◌}
use Rattle.cx_flat.specs.Code.{sync_code}
use Rattle.cx_flat.proofs.trees.push_sync.Given as goal

abbrev pub invariant-directions : goal.invariant-directions
invariant-directions l = l.ops.items ≡ l.fn.ops.items ++ sync_code l.variables l.path 0 l.direction
