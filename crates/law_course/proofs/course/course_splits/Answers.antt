use Rattle.law_course.proofs.SplitLaws.{course_splits}
use Rattle.law_course.proofs.course.course_splits.Goals as goal

pub returns : goal.returns
returns c = λ key rules.
    course_splits c.args.job.now c.requires.whole key rules (c.run_continues.ensures rules)
    (c.run_keeps_states.ensures rules)
    (record {
      sections = c.printed.ensures.sections;
      lines = c.printed.ensures.lines;
      joined = c.printed.ensures.joined;
    }) c.split_is_exact.ensures.spelled
