use Rattle.std.proofs.Common.{sym, ◌∙◌}
use Rattle.cx_region_flags.proofs.FallLaws.{falls}
use Rattle.cx_region_flags.proofs.all_paths_job.settle.Goals as goal

pub turns-smaller : goal.turns-smaller
turns-smaller c =
    falls c.turns.table c.leave_iteration.new.table c.meet.new.self c.meet.ensures
    (sym c.is_below.ensures ∙ c.if-is_below.false)
