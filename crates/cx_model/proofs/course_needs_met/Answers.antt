use Rattle.cx_plan.specs.Setups.{setup_of}
use Rattle.cx_model.proofs.CourseLaws.{needs-met}
use Rattle.cx_model.proofs.course_needs_met.Goals as goal

pub returns : goal.returns
returns c = λ rules. needs-met (setup_of c.args.job.now) rules c.requires
