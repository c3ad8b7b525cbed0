use Rattle.law_course.proofs.StartLaws.{trails_begin}
use Rattle.law_course.proofs.starts.trails_begin.Goals as goal

pub returns : goal.returns
returns c = λ rules.
    trails_begin c.args.job.now rules (c.course_fits.ensures rules)
    (c.course_splits.ensures c.args.job.now.key rules)
