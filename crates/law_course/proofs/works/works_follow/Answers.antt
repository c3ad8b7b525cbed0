use Rattle.cx_plan.specs.Setups.{setup_of}
use Rattle.law_course.proofs.OutputLaws.{rise_from}
use Rattle.law_course.proofs.WorkLaws.{each_work_follows}
use Rattle.law_course.proofs.works.works_follow.Goals as goal

pub returns : goal.returns
returns c = λ key rules.
    each_work_follows (setup_of c.args.job.now) key rules (c.run_continues.ensures rules)
    (c.run_keeps_states.ensures rules) c.requires.whole.itlast_limit
    (rise_from c.args.job.now.out_vars c.requires.whole.outputs_rise)
