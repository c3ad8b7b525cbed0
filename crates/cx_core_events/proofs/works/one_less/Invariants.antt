use Rattle.std.proofs.Common.{◌≡◌, map, take, ◌++◌, drop}
use Rattle.cx_core_events.specs.Steps.{one_less}
use Rattle.cx_core_events.proofs.works.one_less.Given as goal

abbrev pub invariant-parts : goal.invariant-parts
invariant-parts l = l.part-items
    ≡ map one_less (take l.part-index l.initial.part-items)
    ++ drop l.part-index l.initial.part-items
