use Rattle.core_tests.proofs.JobLaws.{is_ready}
use Rattle.core_tests.proofs.jobs.job.Goals as goal

pub returns-in-Ok-clause-ready : goal.returns-in-Ok-clause-ready
returns-in-Ok-clause-ready g c =
    let is = c.in-Ok.ensures in
    is_ready c.in-Ok.job is.whole is.sound is.cut is.interior
