use Rattle.cx_plan.specs.Setups.{setup_of}
use Rattle.law_course.proofs.PlaceLaws.{has_places}
use Rattle.law_course.proofs.course.has_places.Goals as goal

pub returns : goal.returns
returns c = λ key rules.
    has_places (setup_of c.args.job.now) rules (c.run_continues.ensures rules) key
