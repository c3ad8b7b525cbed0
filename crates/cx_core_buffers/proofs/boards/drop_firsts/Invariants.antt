use Rattle.std.proofs.Common.{◌≡◌, ◌++◌, map, take, drop}
use Rattle.cx_core_buffers.proofs.boards.drop_firsts.Given as goal

abbrev pub invariant-lists : goal.invariant-lists
invariant-lists l = l.list-items
    ≡ map (drop 1) (take l.list-index l.initial.list-items)
    ++ drop l.list-index l.initial.list-items
