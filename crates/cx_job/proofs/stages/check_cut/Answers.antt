use Rattle.std.proofs.Common.{map}
use Rattle.std.specs.Prelude.{option_map}
use Rattle.cx_cut.specs.Cuts.{IsWhole}
use Rattle.cx_cut.specs.Faults.{parts_of, cut_fault}
use Rattle.cx_cut.proofs.FaultLaws.{is_whole}
use Rattle.std.proofs.Common.{sym, subst}
use Rattle.cx_job.specs.declared.fault.JobFault.TheVariants as faults
use Rattle.cx_job.specs.Making.{part_limits}
use Rattle.cx_job.proofs.CountLaws.{few_runs}
use Rattle.cx_job.proofs.MakingLaws.{told_second}
use Rattle.cx_job.proofs.ReadyLaws.{unmapped}
use Rattle.cx_job.proofs.stages.check_cut.Goals as goal

pub check_parts-requires-clause-few : goal.check_parts-requires-clause-few
check_parts-requires-clause-few c = few_runs c.args.job.now.plan c.requires.nodes_limit

pub check_parts-requires-clause-whole : goal.check_parts-requires-clause-whole
check_parts-requires-clause-whole c =
    let job = c.args.job.now in
    subst IsWhole (sym c.in_ok-cut.ensures.value)
    (is_whole (parts_of job.shape job.cut) c.requires.shape
    (unmapped faults.Cut (cut_fault (parts_of job.shape job.cut)) c.in_ok-cut.ensures.told))

pub returns : goal.returns
returns c =
    let job = c.args.job.now in
    told_second (option_map faults.Cut (cut_fault (parts_of job.shape job.cut)))
    (part_limits (map (λ s. s.now) c.args.specs.now) job)
    c.check_parts.result c.in_ok-cut.ensures.told c.check_parts.ensures
