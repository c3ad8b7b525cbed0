use Rattle.std.proofs.Common.{◌≡◌}
use Rattle.cx_core_buffers.specs.Checkpoints.{before, levels_in}
use Rattle.cx_core_buffers.specs.Gathering.{put_all}
use Rattle.law_parts.proofs.FilledLaws.{filled}
use Rattle.cx_core_buffers.proofs.gathering.put_variables.Given as goal
use Rattle.cx_plan.specs.Whole.{level_count}

abbrev pub invariant-vars : goal.invariant-vars
invariant-vars l =
    (l.place ≡ before level_count l.vars l.v)
    × (l.all.items ≡ filled l.place
    (put_all l.patch (levels_in l.vars l.patch.numbers) l.initial.all.items)
    l.initial.all.items)
