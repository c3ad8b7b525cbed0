use Rattle.law_course.proofs.FitLaws.{course_fits}
use Rattle.law_course.proofs.course.course_fits.Goals as goal

pub returns : goal.returns
returns c = λ rules.
    course_fits c.args.job.now c.requires.whole rules (c.run_continues.ensures rules)
    (c.run_keeps_states.ensures rules)
