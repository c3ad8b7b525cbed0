use Rattle.thorns_tests.proofs.TrialLaws.{can_be_set}
use Rattle.thorns_tests.proofs.stages.set_all.Goals as goal

pub set_staged-requires : goal.set_staged-requires
set_staged-requires g c =
    can_be_set _ c.args.item.now c.args.patch.now _ c.item_points-zone.result c.requires.trial
    c.shape.ensures.patch c.item_points-zone.ensures
    c.stage_all-given.ensures.same
