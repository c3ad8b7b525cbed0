use Rattle.std.proofs.Common.{◌≡◌, ◌++◌, map, take, drop}
use Rattle.cx_rule.specs.States.{rotated_levels}
use Rattle.cx_rule.proofs.part.rotate_all.Given as goal

abbrev pub invariant-variables : goal.invariant-variables
invariant-variables l =
    l.levels-items
    ≡ map rotated_levels (take l.levels-index l.initial.levels-items)
    ++ drop l.levels-index l.initial.levels-items
