use Rattle.std.proofs.Common.{◌≡◌}
use Rattle.cx_core_buffers.specs.Checkpoints.{before, scalars_in}
use Rattle.law_parts.proofs.FilledLaws.{filled}
use Rattle.cx_core_buffers.proofs.gathering.set_scalars.Given as goal
use Rattle.cx_plan.specs.Whole.{scalar_count}

abbrev pub invariant-vars : goal.invariant-vars
invariant-vars l =
    (l.place ≡ before scalar_count l.vars l.v)
    × (l.scalars.items ≡ filled l.place (scalars_in l.vars l.patch.numbers)
    l.initial.scalars.items)
