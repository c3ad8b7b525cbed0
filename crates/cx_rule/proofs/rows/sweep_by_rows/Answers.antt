use Rattle.std.proofs.Common.{sym, subst}
use Rattle.std.proofs.lemmas.Result.{err_from_is_err_and}
use Rattle.cx_rule.specs.Staging.{CanCommit, Commits}
use Rattle.cx_rule.proofs.SweptLaws.{can_commit, zone_fails, zone_swept}
use Rattle.cx_rule.proofs.rows.sweep_by_rows.Goals as goal

pub returns-in_err-stage_runs : goal.returns-in_err-stage_runs
returns-in_err-stage_runs g c =
    let e = err_from_is_err_and c.from_residual.result c.from_residual.ensures.1 in
    rw e.1
    (zone_fails _ c.args.item.now c.args.patch.now c.requires.can c.requires.patch
    c.requires.rows.kind _ c.args.iteration c.stage_runs.new.patch c.args.meter.now
    c.stage_runs.new.meter
    e.0 c.in_err-stage_runs.ensures)

pub commit-requires : goal.commit-requires
commit-requires g c =
    subst (λ z. CanCommit c.stage_runs.new.patch c.args.item.now z) (sym c.requires.zone)
    (can_commit _ c.args.item.now c.args.patch.now c.requires.can c.requires.patch
    c.requires.rows.kind c.stage_runs.new.patch c.in_ok-stage_runs.ensures.same)

pub returns : goal.returns
returns g c =
    zone_swept _ c.args.item.now c.args.patch.now c.requires.can c.requires.patch
    c.requires.rows.kind _ c.args.iteration c.stage_runs.new.patch c.args.meter.now
    c.stage_runs.new.meter
    c.in_ok-stage_runs.ensures c.commit.new.self c.commit.result
    (subst (λ z. Commits c.stage_runs.new.patch c.args.item.now z c.commit.new.self c.commit.result)
    c.requires.zone c.commit.ensures)
