use Rattle.cx_plan.specs.Setups.{setup_of}
use Rattle.law_course.proofs.StateLaws.{states_unpack}
use Rattle.law_course.proofs.course.states_unpack.Goals as goal

pub returns : goal.returns
returns c = states_unpack (setup_of c.args.job.now)
