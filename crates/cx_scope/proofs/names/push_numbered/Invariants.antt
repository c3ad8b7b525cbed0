use Rattle.std.proofs.Common.{◌≡◌, ◌++◌, map, Some}
use Rattle.std.specs.List.{range_with_len}
use Rattle.cx_scope.specs.Names.{named_copy}
use Rattle.cx_scope.proofs.names.push_numbered.Given as goal

abbrev pub invariant-copies : goal.invariant-copies
invariant-copies l = l.named
    ≡ l.fn.named ++ map (λ k. named_copy l.group l.name (Some k)) (range_with_len 0 l.k)
