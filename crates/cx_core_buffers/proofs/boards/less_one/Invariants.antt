use Rattle.std.proofs.Common.{◌≡◌, ◌-◌, ◌++◌, map, take, drop}
use Rattle.cx_core_buffers.proofs.boards.less_one.Given as goal

abbrev pub invariant-counts : goal.invariant-counts
invariant-counts l = l.count-items
    ≡ map (λ count. count - 1) (take l.count-index l.initial.count-items)
    ++ drop l.count-index l.initial.count-items
