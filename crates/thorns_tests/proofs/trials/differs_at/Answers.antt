use Rattle.thorns_tests.proofs.TrialLaws.{can_be_given}
use Rattle.thorns_tests.proofs.trials.differs_at.Goals as goal

pub at_point-requires-clause-can : goal.at_point-requires-clause-can
at_point-requires-clause-can g c =
    can_be_given _ c.args.item.now c.args.before.now _ c.args.p c.shape-shape.result.now
    c.item_points-zone.result c.in_zone.result c.requires.trial
    c.shape-shape.ensures.patch c.shape-shape.ensures.value c.window_point-from.ensures
    c.item_points-zone.ensures c.in_zone.ensures c.if-in_zone.true
