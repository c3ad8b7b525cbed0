use Rattle.std.proofs.Common.{◌≡◌, ◌++◌, map, Some}
use Rattle.std.specs.List.{range_with_len}
use Rattle.cx_bind.specs.Variables.{info_of}
use Rattle.cx_bind.proofs.variables.push_numbered.Given as goal

abbrev pub invariant-copies : goal.invariant-copies
invariant-copies l = l.infos
    ≡ l.fn.infos ++ map (λ k. info_of l.thorn l.group l.name (Some k)) (range_with_len 0 l.k)
