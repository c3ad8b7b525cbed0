use Rattle.law_course.proofs.FormerLaws.{former_is_trail}
use Rattle.law_course.proofs.starts.former_is_trail.Goals as goal

pub returns : goal.returns
returns c = λ rules. former_is_trail c.args.job.now c.requires.whole rules
