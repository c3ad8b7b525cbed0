use Rattle.law_course.proofs.StateLaws.{fitting_can_begin}
use Rattle.law_course.proofs.beginning.fitting_can_begin.Goals as goal

pub returns : goal.returns
returns c = fitting_can_begin c.args.job.now
