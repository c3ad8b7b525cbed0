use Rattle.law_parts.proofs.JobLaws.{lead_work, step_work}
use Rattle.law_parts.proofs.law.one_work.Goals as goal

pub returns-clause-by_lead : goal.returns-clause-by_lead
returns-clause-by_lead c =
    lead_work c.args.job.now c.requires.whole c.requires.shapes c.requires.interior c.requires.cut
    c.flat_is_run.ensures c.all_ways.ensures c.operation_needs_met.ensures

pub returns-clause-in_step : goal.returns-clause-in_step
returns-clause-in_step c =
    step_work c.args.job.now c.requires.whole c.requires.shapes c.requires.interior c.requires.cut
    c.flat_is_run.ensures c.all_ways.ensures c.operation_needs_met.ensures
