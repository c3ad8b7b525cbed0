use Rattle.cx_plan.specs.Setups.{setup_of}
use Rattle.law_course.proofs.BeginLaws.{course_goes_on}
use Rattle.law_course.proofs.beginning.course_goes_on.Goals as goal

pub returns : goal.returns
returns c = λ key rules.
    course_goes_on (setup_of c.args.job.now) key rules (c.run_continues.ensures rules)
    (c.run_keeps_states.ensures rules)
