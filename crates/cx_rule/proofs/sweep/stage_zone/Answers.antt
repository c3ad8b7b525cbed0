use Rattle.std.proofs.Common.{◌≡◌, ◌<◌, ◌^◌, true, arith, ap, sym, ◌∙◌, refl, take}
use Rattle.std.proofs.lemmas.Result.{err_from_is_err_and}
use Rattle.cx_grid.specs.Boxes.{point_count, points_in}
use Rattle.cx_rule.specs.Swept.{swept_zone, IsStaged}
use Rattle.cx_rule.specs.Zones.{in_zone}
use Rattle.cx_rule.specs.declared.zone.Zone.{Zone}
use Rattle.cx_rule.proofs.SkipLaws.{its_small, box_of, passes_from, passes_one, passes_all, stands_at}
use Rattle.cx_rule.proofs.SweptLaws.{from_is, can_stage, staged_none, staged_more, staged_skip, staged_fails}
use Rattle.cx_rule.proofs.sweep.stage_zone.Goals as goal

pub count_of-count-requires : goal.count_of-count-requires
count_of-count-requires g c =
    its_small c.args.zone.now c.args.patch.now c.args.item.now c.requires.patch c.requires.kind
    c.requires.zone

pub points-init : goal.points-init
points-init g c = staged_none _ c.args.item.now c.args.patch.now c.requires.can c.requires.patch
    c.requires.kind _ c.args.iteration c.args.meter.now

pub point_at-p-requires-clause-small : goal.point_at-p-requires-clause-small
point_at-p-requires-clause-small g c =
    its_small c.args.zone.now c.args.patch.now c.args.item.now c.requires.patch c.requires.kind
    c.requires.zone

pub point_at-p-requires-clause-ordered : goal.point_at-p-requires-clause-ordered
point_at-p-requires-clause-ordered g c =
    let l : c.points.at < point_count c.args.zone.now.all =
    omega (arith, c.points-test.true, c.count_of-count.ensures) in
    box_of c.args.zone.now.all c.points.at l

pub overflow_add-at : goal.overflow_add-at
overflow_add-at g c =
    let few : point_count c.args.zone.now.all < 2 ^ 32 =
    its_small c.args.zone.now c.args.patch.now c.args.item.now c.requires.patch c.requires.kind
    c.requires.zone
    in
    omega (
      arith,
      c.points-test.true,
      c.count_of-count.ensures,
      few,
      c.hole_from-skipped.ensures.few,
    )

pub points-preserved-then-skipped-gt0 : goal.points-preserved-then-skipped-gt0
points-preserved-then-skipped-gt0 g c =
    let old = c.args.patch.now in
    let x = c.args.item.now in
    let l : c.points.at < point_count c.args.zone.now.all =
    omega (arith, c.points-test.true, c.count_of-count.ensures) in
    passes_from (λ points. IsStaged old g.R.PointRule.law x c.args.iteration points c.points.patch
    c.args.meter.now c.points.meter)
    c.args.zone.now c.point_at-p.result c.points.at c.hole_from-skipped.result l
    c.point_at-p.ensures.value
    (λ points y out f.
    staged_skip _ x old c.requires.can c.requires.patch c.requires.kind _ c.args.iteration points
    c.points.patch c.args.meter.now c.points.meter f y
    (ap (λ (z : Zone). in_zone z y) (sym c.requires.zone) ∙ out))
    c.point_at-p.ensures.inside c.hole_from-skipped.ensures.outside c.points.invariant

pub stage_rule-requires : goal.stage_rule-requires
stage_rule-requires g c =
    let old = c.args.patch.now in
    let x = c.args.item.now in
    let p = c.point_at-p.result in
    let from = from_is old c.points.patch x _ _ _ p c.points.invariant.same c.shape.ensures.value
    c.region_of.ensures c.window_point-from.ensures in
    let none : c.hole_from-skipped.result ≡ 0 = omega (arith, c.if-skipped-gt0.false) in
    let zone : in_zone (swept_zone old x) p ≡ true =
    ap (λ (z : Zone). in_zone z p) (sym c.requires.zone)
    ∙ c.hole_from-skipped.ensures.none none in
    can_stage _ x old c.requires.can c.requires.patch c.requires.kind c.points.patch _ p
    c.points.invariant.same from zone

pub points-preserved : goal.points-preserved
points-preserved g c =
    let old = c.args.patch.now in
    let x = c.args.item.now in
    let p = c.point_at-p.result in
    let l : c.points.at < point_count c.args.zone.now.all =
    omega (arith, c.points-test.true, c.count_of-count.ensures) in
    let from = from_is old c.points.patch x _ _ _ p c.points.invariant.same c.shape.ensures.value
    c.region_of.ensures c.window_point-from.ensures in
    let none : c.hole_from-skipped.result ≡ 0 = omega (arith, c.if-skipped-gt0.false) in
    let zone : in_zone (swept_zone old x) p ≡ true =
    ap (λ (z : Zone). in_zone z p) (sym c.requires.zone)
    ∙ c.hole_from-skipped.ensures.none none in
    rw (← passes_one c.args.zone.now.all c.points.at p l c.point_at-p.ensures.value)
    (staged_more _ x old c.requires.can c.requires.patch c.requires.kind _ c.args.iteration
    (take c.points.at (points_in c.args.zone.now.all))
    c.points.patch c.args.meter.now c.points.meter
    c.points.invariant c.shape.ensures.patch _ p c.stage_rule.new.self c.add.new.self
    c.in_ok-stage_rule.field-0 from zone c.in_ok-stage_rule.ensures c.add.ensures)

pub returns-in_err-stage_rule : goal.returns-in_err-stage_rule
returns-in_err-stage_rule g c =
    let old = c.args.patch.now in
    let x = c.args.item.now in
    let p = c.point_at-p.result in
    let pts = points_in c.args.zone.now.all in
    let l : c.points.at < point_count c.args.zone.now.all =
    omega (arith, c.points-test.true, c.count_of-count.ensures) in
    let t = stands_at c.args.zone.now.all c.points.at p l c.point_at-p.ensures.value in
    let from = from_is old c.points.patch x _ _ _ p c.points.invariant.same c.shape.ensures.value
    c.region_of.ensures c.window_point-from.ensures in
    let none : c.hole_from-skipped.result ≡ 0 = omega (arith, c.if-skipped-gt0.false) in
    let zone : in_zone (swept_zone old x) p ≡ true =
    ap (λ (z : Zone). in_zone z p) (sym c.requires.zone)
    ∙ c.hole_from-skipped.ensures.none none in
    let all : pts ≡ points_in (swept_zone old x).all =
    ap (λ (z : Zone). points_in z.all) c.requires.zone in
    let e = err_from_is_err_and c.from_residual.result c.from_residual.ensures.1 in
    rw e.1
    (staged_fails _ x old c.requires.can c.requires.patch c.requires.kind _ c.args.iteration
    (take c.points.at pts) c.points.patch c.args.meter.now c.points.meter
    c.points.invariant c.shape.ensures.patch pts c.points.at _ p c.stage_rule.new.self
    c.add.new.self e.0 refl all t from zone
    c.in_err-stage_rule.ensures c.add.ensures)

pub returns : goal.returns
returns g c =
    let end : c.points.at < point_count c.args.zone.now.all
    → ⊥ = λ l. absurd (omega (arith, l, c.points-test.false, c.count_of-count.ensures)) in
    let all : take c.points.at (points_in c.args.zone.now.all)
    ≡ points_in (swept_zone c.args.patch.now c.args.item.now).all =
    passes_all c.args.zone.now.all c.points.at end
    ∙ ap (λ (z : Zone). points_in z.all) c.requires.zone
    in
    rw all at c.points.invariant
