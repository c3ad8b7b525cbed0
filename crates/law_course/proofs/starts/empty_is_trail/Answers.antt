use Rattle.law_course.proofs.StartLaws.{empty_is_trail}
use Rattle.law_course.specs.Starts.{course_in}
use Rattle.law_course.proofs.starts.empty_is_trail.Goals as goal

pub returns : goal.returns
returns c = λ rules files none. empty_is_trail (course_in c.args.job.now rules) files none
