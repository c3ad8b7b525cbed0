use Rattle.core_tests.proofs.JobLaws.{is_ready}
use Rattle.core_tests.proofs.in_memory.job.Goals as goal

pub returns-clause-ready : goal.returns-clause-ready
returns-clause-ready g c =
    let is = c.in_ok-job.ensures in
    is_ready c.in_ok-job.job is.whole is.sound is.cut is.interior
