use Rattle.law_course.proofs.StartLaws.{one_course}
use Rattle.law_course.proofs.starts.one_course.Goals as goal

pub returns : goal.returns
returns c = λ rules one_setup one_key. one_course c.args.a.now c.args.b.now rules one_setup one_key
