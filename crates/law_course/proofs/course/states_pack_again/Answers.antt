use Rattle.cx_plan.specs.Setups.{setup_of}
use Rattle.law_course.proofs.StateLaws.{states_pack_again}
use Rattle.law_course.proofs.course.states_pack_again.Goals as goal

pub returns : goal.returns
returns c = states_pack_again (setup_of c.args.job.now)
