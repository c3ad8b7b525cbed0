use Rattle.std.proofs.Common.{refl, ℕ, subst, ◌≡◌, ◌<◌, ◌^◌, arith, ap, sym, ◌∙◌}
use Rattle.std.proofs.lemmas.Int.{ints}
use Rattle.std.proofs.lemmas.Result.{err_from_is_err_and}
use Rattle.cx_grid.specs.Boxes.{point_count, point_in, points_in}
use Rattle.cx_plan.specs.Regions.{region_of}
use Rattle.cx_rule.specs.Swept.{swept_zone, IsStaged}
use Rattle.cx_rule.specs.Zones.{in_zone, IsOutside}
use Rattle.cx_rule.specs.declared.zone.Zone.{Zone}
use Rattle.cx_rule.specs.Patches.{beside}
use Rattle.cx_rule.proofs.AfterLaws.{first_here, next_here, stands_there, hole_high}
use Rattle.cx_rule.proofs.OpenLaws.{can_leave_open, opened}
use Rattle.cx_rule.proofs.RowSteps.{shape_same, here_run, can_stage_row, end_in, run_fits, run_more, run_fails}
use Rattle.cx_rule.proofs.SkipLaws.{its_small, passes_from, passes_all}
use Rattle.cx_rule.proofs.SweptLaws.{staged_none, staged_skip}
use Rattle.cx_rule.proofs.rows.stage_runs.Goals as goal

pub count_of-count-requires : goal.count_of-count-requires
count_of-count-requires g c =
    its_small c.args.zone.now c.args.patch.now c.args.item.now c.requires.patch c.requires.rows.kind
    c.requires.zone

pub runs-init : goal.runs-init
runs-init g c = record {
  staged = staged_none _ c.args.item.now c.args.patch.now c.requires.can c.requires.patch
      c.requires.rows.kind _ c.args.iteration c.args.meter.now;
  here = first_here c.args.zone.now.all;
}

pub leave_open-requires : goal.leave_open-requires
leave_open-requires g c =
    let old = c.args.patch.now in
    let x = c.args.item.now in
    let some : 0 < c.hole_from-skipped.result = omega (arith, c.if-skipped-gt0.true) in
    can_leave_open _ x old c.requires.can c.requires.patch c.requires.rows c.runs.low
    c.hole_from-skipped.result some
    (subst (λ z. (k : ℕ) → k < c.hole_from-skipped.result → IsOutside z (beside c.runs.low k))
    c.requires.zone c.hole_from-skipped.ensures.outside)
    c.runs.patch c.runs.invariant.staged.same

pub after-low-requires-clause-row : goal.after-low-requires-clause-row
after-low-requires-clause-row g c =
    let some : 0 < c.hole_from-skipped.result = omega (arith, c.if-skipped-gt0.true) in
    hole_high c.args.zone.now c.runs.low c.hole_from-skipped.result some
    c.hole_from-skipped.ensures.outside

pub overflow_add-at : goal.overflow_add-at
overflow_add-at g c =
    let few : point_count c.args.zone.now.all < 2 ^ 32 =
    its_small c.args.zone.now c.args.patch.now c.args.item.now c.requires.patch c.requires.rows.kind
    c.requires.zone
    in
    omega (arith, c.runs-test.true, c.count_of-count.ensures, few, c.hole_from-skipped.ensures.few)

pub runs-preserved-then-skipped-gt0 : goal.runs-preserved-then-skipped-gt0
runs-preserved-then-skipped-gt0 g c =
    let old = c.args.patch.now in
    let x = c.args.item.now in
    let some : 0 < c.hole_from-skipped.result = omega (arith, c.if-skipped-gt0.true) in
    let l : c.runs.at < point_count c.args.zone.now.all =
    omega (arith, c.runs-test.true, c.count_of-count.ensures) in
    let here = c.runs.invariant.here l in
    let all : points_in (swept_zone old x).all ≡ points_in c.args.zone.now.all =
    ap (λ (z : Zone). points_in z.all) (sym c.requires.zone) in
    let left =
    opened _ x old c.requires.can c.requires.patch c.requires.rows c.runs.low
    c.hole_from-skipped.result some
    (subst (λ z. (k : ℕ) → k < c.hole_from-skipped.result → IsOutside z (beside c.runs.low k))
    c.requires.zone c.hole_from-skipped.ensures.outside)
    _ c.args.iteration _ c.runs.patch c.args.meter.now c.runs.meter c.runs.invariant.staged
    c.leave_open.ensures.patch c.leave_open.new.self c.leave_open.ensures.left
    in
    record {
      staged = rw all
          (passes_from (λ points.
          IsStaged old g.R.PointRule.law x c.args.iteration points c.leave_open.new.self
          c.args.meter.now c.runs.meter)
          c.args.zone.now c.runs.low c.runs.at c.hole_from-skipped.result l
          (stands_there c.args.zone.now.all c.args.zone.now.all c.runs.low c.runs.at refl here.0
          here.1)
          (λ points y out f.
          staged_skip _ x old c.requires.can c.requires.patch c.requires.rows.kind _
          c.args.iteration points c.leave_open.new.self c.args.meter.now c.runs.meter f y
          (ap (λ (z : Zone). in_zone z y) (sym c.requires.zone) ∙ out))
          here.0 c.hole_from-skipped.ensures.outside (rw all at left));
      here = next_here c.args.zone.now.all c.runs.low c.after-low.result c.hole_from-skipped.result
          c.runs.at here.1 c.after-low.ensures;
    }

pub stage_rule_row-requires : goal.stage_rule_row-requires
stage_rule_row-requires g c =
    let old = c.args.patch.now in
    let x = c.args.item.now in
    let is =
    here_run c.shape.result.now old.shape c.region_of.result (region_of x.writes) c.args.zone.now
    (swept_zone old x) c.run_from-run.result
    (c.shape.ensures.value ∙ shape_same c.runs.patch old c.runs.invariant.staged.same)
    c.region_of.ensures c.requires.zone c.run_from-run.ensures.run
    in
    can_stage_row _ x old c.requires.can c.requires.patch c.requires.rows c.run_from-run.result is
    c.runs.patch c.runs.invariant.staged.same

pub after-low-requires-in-runs-clause-row : goal.after-low-requires-in-runs-clause-row
after-low-requires-in-runs-clause-row g c =
    let old = c.args.patch.now in
    let x = c.args.item.now in
    let is =
    here_run c.shape.result.now old.shape c.region_of.result (region_of x.writes) c.args.zone.now
    (swept_zone old x) c.run_from-run.result
    (c.shape.ensures.value ∙ shape_same c.runs.patch old c.runs.invariant.staged.same)
    c.region_of.ensures c.requires.zone c.run_from-run.ensures.run
    in
    let high = end_in _ x old c.requires.can c.requires.patch c.requires.rows c.run_from-run.result
    is in
    let first : c.run_from-run.result.low.x ≡ c.runs.low.x =
    ap (λ q. q.x) c.run_from-run.ensures.low in
    let end : c.args.zone.now.all.high.x ≡ (swept_zone old x).all.high.x =
    ap (λ (z : Zone). z.all.high.x) c.requires.zone in
    omega (arith, ints, high, first, end)

pub overflow_add-at-in-runs : goal.overflow_add-at-in-runs
overflow_add-at-in-runs g c =
    let old = c.args.patch.now in
    let x = c.args.item.now in
    let l : c.runs.at < point_count c.args.zone.now.all =
    omega (arith, c.runs-test.true, c.count_of-count.ensures) in
    let here = c.runs.invariant.here l in
    let is =
    here_run c.shape.result.now old.shape c.region_of.result (region_of x.writes) c.args.zone.now
    (swept_zone old x) c.run_from-run.result
    (c.shape.ensures.value ∙ shape_same c.runs.patch old c.runs.invariant.staged.same)
    c.region_of.ensures c.requires.zone c.run_from-run.ensures.run
    in
    let all : point_count c.args.zone.now.all ≡ point_count (swept_zone old x).all =
    ap (λ (z : Zone). point_count z.all) c.requires.zone in
    let below : c.runs.at < point_count (swept_zone old x).all = omega (arith, l, all) in
    let place : c.run_from-run.result.low ≡ point_in (swept_zone old x).all c.runs.at =
    c.run_from-run.ensures.low
    ∙ stands_there c.args.zone.now.all (swept_zone old x).all c.runs.low c.runs.at
    (ap (λ (z : Zone). z.all) c.requires.zone) here.0 here.1
    in
    let room = run_fits _ x old c.requires.can c.requires.patch c.requires.rows
    c.run_from-run.result is c.runs.at below place in
    let few : point_count c.args.zone.now.all < 2 ^ 32 =
    its_small c.args.zone.now old x c.requires.patch c.requires.rows.kind c.requires.zone in
    omega (arith, room, few, all)

pub runs-preserved : goal.runs-preserved
runs-preserved g c =
    let old = c.args.patch.now in
    let x = c.args.item.now in
    let l : c.runs.at < point_count c.args.zone.now.all =
    omega (arith, c.runs-test.true, c.count_of-count.ensures) in
    let here = c.runs.invariant.here l in
    let is =
    here_run c.shape.result.now old.shape c.region_of.result (region_of x.writes) c.args.zone.now
    (swept_zone old x) c.run_from-run.result
    (c.shape.ensures.value ∙ shape_same c.runs.patch old c.runs.invariant.staged.same)
    c.region_of.ensures c.requires.zone c.run_from-run.ensures.run
    in
    let all : point_count c.args.zone.now.all ≡ point_count (swept_zone old x).all =
    ap (λ (z : Zone). point_count z.all) c.requires.zone in
    let below : c.runs.at < point_count (swept_zone old x).all = omega (arith, l, all) in
    let place : c.run_from-run.result.low ≡ point_in (swept_zone old x).all c.runs.at =
    c.run_from-run.ensures.low
    ∙ stands_there c.args.zone.now.all (swept_zone old x).all c.runs.low c.runs.at
    (ap (λ (z : Zone). z.all) c.requires.zone) here.0 here.1
    in
    record {
      staged = run_more _ x old c.requires.can c.requires.patch c.requires.rows
          c.run_from-run.result is c.runs.at below place _ c.args.iteration c.runs.patch
          c.args.meter.now c.runs.meter
          c.runs.invariant.staged c.shape.ensures.patch c.stage_rule_row.new.self c.add.new.self
          c.in_ok-stage_rule_row.field-0 c.in_ok-stage_rule_row.ensures.staged c.add.ensures;
      here = next_here c.args.zone.now.all c.runs.low c.after-low-in-runs.result
          c.run_from-run.result.count c.runs.at here.1 c.after-low-in-runs.ensures;
    }

pub returns-in_err-stage_rule_row : goal.returns-in_err-stage_rule_row
returns-in_err-stage_rule_row g c =
    let old = c.args.patch.now in
    let x = c.args.item.now in
    let l : c.runs.at < point_count c.args.zone.now.all =
    omega (arith, c.runs-test.true, c.count_of-count.ensures) in
    let here = c.runs.invariant.here l in
    let is =
    here_run c.shape.result.now old.shape c.region_of.result (region_of x.writes) c.args.zone.now
    (swept_zone old x) c.run_from-run.result
    (c.shape.ensures.value ∙ shape_same c.runs.patch old c.runs.invariant.staged.same)
    c.region_of.ensures c.requires.zone c.run_from-run.ensures.run
    in
    let all : point_count c.args.zone.now.all ≡ point_count (swept_zone old x).all =
    ap (λ (z : Zone). point_count z.all) c.requires.zone in
    let below : c.runs.at < point_count (swept_zone old x).all = omega (arith, l, all) in
    let place : c.run_from-run.result.low ≡ point_in (swept_zone old x).all c.runs.at =
    c.run_from-run.ensures.low
    ∙ stands_there c.args.zone.now.all (swept_zone old x).all c.runs.low c.runs.at
    (ap (λ (z : Zone). z.all) c.requires.zone) here.0 here.1
    in
    let e = err_from_is_err_and c.from_residual.result c.from_residual.ensures.1 in
    rw e.1
    (run_fails _ x old c.requires.can c.requires.patch c.requires.rows c.run_from-run.result is
    c.runs.at below place _ c.args.iteration c.runs.patch c.args.meter.now c.runs.meter
    c.runs.invariant.staged c.shape.ensures.patch c.stage_rule_row.new.self e.0
    c.in_err-stage_rule_row.ensures.staged)

pub returns : goal.returns
returns g c =
    let old = c.args.patch.now in
    let x = c.args.item.now in
    let all : point_count c.args.zone.now.all ≡ point_count (swept_zone old x).all =
    ap (λ (z : Zone). point_count z.all) c.requires.zone in
    let end : c.runs.at < point_count (swept_zone old x).all
    → ⊥ = λ l. absurd (omega (arith, l, c.runs-test.false, c.count_of-count.ensures, all)) in
    rw (passes_all (swept_zone old x).all c.runs.at end) at c.runs.invariant.staged
