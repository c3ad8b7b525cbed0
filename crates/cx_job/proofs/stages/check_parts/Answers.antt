use Rattle.std.proofs.Common.{map}
use Rattle.std.specs.Prelude.{◌^◌, codes}
use Rattle.cx_job.specs.Caps.{caps_fault}
use Rattle.cx_job.specs.JobLimits.{over}
use Rattle.cx_job.specs.LocalCells.{local_cells}
use Rattle.cx_job.proofs.MakingLaws.{told_second}
use Rattle.cx_job.proofs.stages.check_parts.Goals as goal

pub returns : goal.returns
returns c =
    let job = c.args.job.now in
    told_second (over (codes "local cells") (local_cells job) (2 ^ 27))
    (caps_fault (map (λ s. s.now) c.args.specs.now) job) c.check_largest.result
    (c.in_ok-check_local_cells.ensures (local_cells job) c.local_cells.ensures)
    c.check_largest.ensures
