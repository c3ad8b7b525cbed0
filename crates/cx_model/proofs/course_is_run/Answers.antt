use Rattle.cx_plan.specs.Setups.{setup_of}
use Rattle.cx_model.proofs.CutLaws.{cut_stages}
use Rattle.cx_model.proofs.course_is_run.Goals as goal

pub returns : goal.returns
returns c = λ rules. cut_stages (setup_of c.args.job.now) rules
