use Rattle.cx_plan.specs.Setups.{setup_of}
use Rattle.law_course.proofs.PlaceLaws.{course_rises}
use Rattle.law_course.proofs.course.course_rises.Goals as goal

pub returns : goal.returns
returns c = λ key rules.
    course_rises (setup_of c.args.job.now) key rules (c.run_continues.ensures rules)
