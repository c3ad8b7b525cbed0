use Rattle.thorns_tests.proofs.TrialLaws.{can_be_given}
use Rattle.thorns_tests.proofs.stages.stage_all.Goals as goal

pub stage_by_rule-given-requires : goal.stage_by_rule-given-requires
stage_by_rule-given-requires g c =
    can_be_given _ c.args.item.now c.args.patch.now _ _ c.shape.result.now c.args.zone.now
    c.in_zone.result c.requires.trial c.shape.ensures.patch
    c.shape.ensures.value c.window_point-from.ensures c.requires.zone c.in_zone.ensures
    c.if-in_zone.true
