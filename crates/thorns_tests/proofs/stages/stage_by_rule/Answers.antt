use Rattle.thorns_tests.proofs.TrialLaws.{stages_keep}
use Rattle.thorns_tests.proofs.stages.stage_by_rule.Goals as goal

pub returns : goal.returns
returns g c =
    let routine = c.args.routine.now in
    stages_keep c.args.patch.now c.stage_point.new.self
    ((goal.Routine-dyn g (routine.vtable, routine.value)).rule routine.value)
    c.args.item.now 1 c.args.from c.args.p
    c.stage_point.result c.stage_point.ensures.staged
