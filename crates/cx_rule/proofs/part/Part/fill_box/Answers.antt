use Rattle.std.proofs.Common.{◌≡◌, ◌∙◌, ap, sym, subst, refl, rules, arith, length, ◌<◌, ◌+◌, pos, SFits, w64}
use Rattle.std.specs.Prelude.{slice_index_or}
use Rattle.std.proofs.lemmas.Int.{to_z-of_z}
use Rattle.std.proofs.lemmas.Iterator.Consumers.{YieldsList-from_first, YieldsList-turn, YieldsList-end}
use Rattle.cx_grid.specs.Boxes.{point_count, point_in, points_in}
use Rattle.cx_rule.specs.Filling.{SetsIfLocal, FilledTo}
use Rattle.cx_rule.proofs.FillLaws.{filled_none, filled_step}
use Rattle.cx_rule.proofs.SkipLaws.{is_at, count_is, one_longer}
use Rattle.cx_rule.proofs.part.Part.fill_box.Goals as goal

pub points-init : goal.points-init
points-init c = (
  c.requires.level,
  filled_none c.args.self.now c.args.v c.args.b.now c.args.values.now,
  refl,
)

pub offset_bounds-values-at : goal.offset_bounds-values-at
offset_bounds-values-at c =
    let pts = points_in c.args.b.now in
    let begins = c.into_iter-p-iterator.ensures.into_iter_gives ∙ c.rows-p-items.ensures in
    let road = YieldsList-from_first (λ x. x) (λ left. left) {s = c.into_iter-p-iterator.result}
    pts begins in
    let t = YieldsList-turn road c.points.yielded _ c.points.yielded_by _ c.next.new.self
    c.in-Some.p c.in-Some.is c.next.ensures.steps in
    let at = is_at c.args.b.now (length c.points.yielded) c.in-Some.p t.0 t.1 in
    let count = c.points.invariant.2 in
    let l : c.points.at < point_count c.args.b.now = let b = at.below in omega (arith, b, count) in
    omega (arith, l, c.requires.small)

pub bounds-values-at : goal.bounds-values-at
bounds-values-at c =
    let pts = points_in c.args.b.now in
    let begins = c.into_iter-p-iterator.ensures.into_iter_gives ∙ c.rows-p-items.ensures in
    let road = YieldsList-from_first (λ x. x) (λ left. left) {s = c.into_iter-p-iterator.result}
    pts begins in
    let t = YieldsList-turn road c.points.yielded _ c.points.yielded_by _ c.next.new.self
    c.in-Some.p c.in-Some.is c.next.ensures.steps in
    let at = is_at c.args.b.now (length c.points.yielded) c.in-Some.p t.0 t.1 in
    let count = c.points.invariant.2 in
    let l : c.points.at < point_count c.args.b.now = let b = at.below in omega (arith, b, count) in
    omega (arith, l, c.requires.count)

pub overflow_add-at : goal.overflow_add-at
overflow_add-at c =
    let pts = points_in c.args.b.now in
    let begins = c.into_iter-p-iterator.ensures.into_iter_gives ∙ c.rows-p-items.ensures in
    let road = YieldsList-from_first (λ x. x) (λ left. left) {s = c.into_iter-p-iterator.result}
    pts begins in
    let t = YieldsList-turn road c.points.yielded _ c.points.yielded_by _ c.next.new.self
    c.in-Some.p c.in-Some.is c.next.ensures.steps in
    let at = is_at c.args.b.now (length c.points.yielded) c.in-Some.p t.0 t.1 in
    let count = c.points.invariant.2 in
    let l : c.points.at < point_count c.args.b.now = let b = at.below in omega (arith, b, count) in
    omega (arith, l, c.requires.small)

pub points-preserved : goal.points-preserved
points-preserved c =
    let pts = points_in c.args.b.now in
    let begins = c.into_iter-p-iterator.ensures.into_iter_gives ∙ c.rows-p-items.ensures in
    let road = YieldsList-from_first (λ x. x) (λ left. left) {s = c.into_iter-p-iterator.result}
    pts begins in
    let t = YieldsList-turn road c.points.yielded _ c.points.yielded_by _ c.next.new.self
    c.in-Some.p c.in-Some.is c.next.ensures.steps in
    let at = is_at c.args.b.now (length c.points.yielded) c.in-Some.p t.0 t.1 in
    let count = c.points.invariant.2 in
    let l : c.points.at < point_count c.args.b.now = let b = at.below in omega (arith, b, count) in
    let r : SFits w64 (slice_index_or c.args.values.now c.points.at (pos 0)) = search rules in
    let here : c.in-Some.p ≡ point_in c.args.b.now c.points.at =
    at.place ∙ ap (point_in c.args.b.now) (sym count) in
    let e : SetsIfLocal c.points.self c.args.v (point_in c.args.b.now c.points.at)
    (slice_index_or c.args.values.now c.points.at (pos 0)) c.set_if_local.new.self
    = rw (here, to_z-of_z w64 _ r) at c.set_if_local.ensures.value in
    let next = filled_step c.args.self.now c.points.self c.args.v c.args.b.now c.args.values.now
    c.points.at l c.points.invariant.1 c.set_if_local.new.self
    c.set_if_local.ensures.patch c.points.invariant.0 e in
    (next.0, next.1, ap (λ n. n + 1) count ∙ sym (one_longer c.points.yielded c.in-Some.p))

pub returns : goal.returns
returns c =
    let pts = points_in c.args.b.now in
    let begins = c.into_iter-p-iterator.ensures.into_iter_gives ∙ c.rows-p-items.ensures in
    let road = YieldsList-from_first (λ x. x) (λ left. left) {s = c.into_iter-p-iterator.result}
    pts begins in
    let t = YieldsList-end road c.points.yielded _ c.points.yielded_by _ c.next.new.self
    c.in-None.is c.next.ensures.steps in
    let all : c.points.at ≡ point_count c.args.b.now = let n = t.1 in
    let count = c.points.invariant.2 in omega (arith, n, count, count_is c.args.b.now) in
    subst (FilledTo c.args.self.now c.points.self c.args.v c.args.b.now c.args.values.now)
    all c.points.invariant.1
