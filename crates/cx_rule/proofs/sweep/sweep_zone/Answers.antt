use Rattle.std.proofs.Common.{sym, subst}
use Rattle.std.proofs.lemmas.Result.{err_from_is_err_and}
use Rattle.cx_rule.specs.Staging.{CanCommit, Commits}
use Rattle.cx_rule.proofs.SweptLaws.{can_commit, zone_fails, zone_swept}
use Rattle.cx_rule.proofs.sweep.sweep_zone.Goals as goal

pub returns-in_err-stage_zone : goal.returns-in_err-stage_zone
returns-in_err-stage_zone g c =
    let e = err_from_is_err_and c.from_residual.result c.from_residual.ensures.1 in
    rw e.1
    (zone_fails _ c.args.item.now c.args.patch.now c.requires.can c.requires.patch c.requires.kind _
    c.args.iteration c.stage_zone.new.patch c.args.meter.now c.stage_zone.new.meter
    e.0 c.in_err-stage_zone.ensures)

pub commit-requires : goal.commit-requires
commit-requires g c =
    subst (λ z. CanCommit c.stage_zone.new.patch c.args.item.now z) (sym c.requires.zone)
    (can_commit _ c.args.item.now c.args.patch.now c.requires.can c.requires.patch c.requires.kind
    c.stage_zone.new.patch c.in_ok-stage_zone.ensures.same)

pub returns : goal.returns
returns g c =
    zone_swept _ c.args.item.now c.args.patch.now c.requires.can c.requires.patch c.requires.kind _
    c.args.iteration c.stage_zone.new.patch c.args.meter.now c.stage_zone.new.meter
    c.in_ok-stage_zone.ensures c.commit.new.self c.commit.result
    (subst (λ z. Commits c.stage_zone.new.patch c.args.item.now z c.commit.new.self c.commit.result)
    c.requires.zone c.commit.ensures)
