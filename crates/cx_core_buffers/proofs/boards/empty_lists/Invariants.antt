use Rattle.std.proofs.Common.{◌≡◌, replicate, []}
use Rattle.cx_core_buffers.proofs.boards.empty_lists.Given as goal

abbrev pub invariant-lists : goal.invariant-lists
invariant-lists l = l.lists.items ≡ replicate l.counter []
