use Rattle.law_course.proofs.OutputLaws.{rise_from}
use Rattle.law_course.proofs.SteerLaws.{one_course_to}
use Rattle.law_course.proofs.starts.one_course_to.Goals as goal

pub returns : goal.returns
returns c = λ rules n alike.
    one_course_to c.args.a.now c.args.b.now rules n
    (rise_from c.args.a.now.out_vars c.requires.whole.outputs_rise) alike
