use Rattle.std.proofs.Common.{refl}
use Rattle.std.proofs.lemmas.Result.{err_from_is_err_and}
use Rattle.cx_rule.proofs.ScalarLaws.{scalar_low, scalar_can_stage, scalar_can_commit, scalar_fails, scalar_swept}
use Rattle.cx_rule.proofs.SweptLaws.{just_staged}
use Rattle.cx_rule.proofs.sweep.sweep_scalar.Goals as goal

pub stage_rule-requires : goal.stage_rule-requires
stage_rule-requires g c =
    scalar_can_stage _ c.args.item.now c.args.patch.now c.requires.can c.requires.patch
    c.requires.kind _
    (scalar_low c.args.item.now c.args.patch.now c.requires.kind c.args.zone.now c.requires.zone)

pub returns-in_err-stage_rule : goal.returns-in_err-stage_rule
returns-in_err-stage_rule g c =
    let e = err_from_is_err_and c.from_residual.result c.from_residual.ensures.1 in
    rw e.1
    (scalar_fails _ c.args.item.now c.args.patch.now c.requires.can c.requires.patch c.requires.kind
    _ c.args.iteration
    c.args.zone.now.all.low c.stage_rule.new.self c.args.meter.now c.add.new.self e.0
    c.in_err-stage_rule.ensures c.add.ensures)

pub commit-requires : goal.commit-requires
commit-requires g c =
    let low = scalar_low c.args.item.now c.args.patch.now c.requires.kind c.args.zone.now
    c.requires.zone in
    let staged = c.in_ok-stage_rule.ensures in
    let same = just_staged c.args.patch.now c.stage_rule.new.self c.args.zone.now.all.low staged.0
    staged.3 in
    scalar_can_commit _ c.args.item.now c.args.patch.now c.requires.can c.requires.patch
    c.requires.kind c.stage_rule.new.self c.args.zone.now same low

pub returns : goal.returns
returns g c =
    let low = scalar_low c.args.item.now c.args.patch.now c.requires.kind c.args.zone.now
    c.requires.zone in
    scalar_swept _ c.args.item.now c.args.patch.now c.requires.can c.requires.patch c.requires.kind
    _ c.args.iteration
    c.args.zone.now.all.low c.stage_rule.new.self c.args.meter.now c.add.new.self
    c.in_ok-stage_rule.field-0 low c.in_ok-stage_rule.ensures c.add.ensures
    c.args.zone.now c.commit.new.self c.commit.result refl c.commit.ensures
