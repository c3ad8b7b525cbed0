use Rattle.std.proofs.Common.{◌≡◌, ◌∙◌, ap, rules, arith, length, map, ◌++◌, SFits, w64}
use Rattle.std.specs.List.{range_with_len}
use Rattle.std.proofs.lemmas.Int.{to_z-of_z}
use Rattle.std.proofs.lemmas.Iterator.Consumers.{YieldsList-from_first, YieldsList-turn, YieldsList-end}
use Rattle.cx_grid.specs.Boxes.{point_in, point_count, points_in}
use Rattle.cx_rule.specs.Patches.{number_at, values_in}
use Rattle.cx_rule.proofs.FillLaws.{copy_more, grid_values}
use Rattle.cx_rule.proofs.SkipLaws.{is_at, count_is, one_longer}
use Rattle.cx_rule.proofs.part.Part.copy_box.Goals as goal

pub get-requires-clause-point : goal.get-requires-clause-point
get-requires-clause-point c =
    let pts = points_in c.args.b.now in
    let begins = c.into_iter-p-iterator.ensures.into_iter_gives ∙ c.rows-p-items.ensures in
    let road = YieldsList-from_first (λ x. x) (λ left. left) {s = c.into_iter-p-iterator.result}
    pts begins in
    let t = YieldsList-turn road c.points.yielded _ c.points.yielded_by _ c.next.new.self
    c.in-Some.p c.in-Some.is c.next.ensures.steps in
    let at = is_at c.args.b.now (length c.points.yielded) c.in-Some.p t.0 t.1 in
    c.requires.local _ at.inside

pub points-preserved : goal.points-preserved
points-preserved c =
    let pts = points_in c.args.b.now in
    let begins = c.into_iter-p-iterator.ensures.into_iter_gives ∙ c.rows-p-items.ensures in
    let road = YieldsList-from_first (λ x. x) (λ left. left) {s = c.into_iter-p-iterator.result}
    pts begins in
    let t = YieldsList-turn road c.points.yielded _ c.points.yielded_by _ c.next.new.self
    c.in-Some.p c.in-Some.is c.next.ensures.steps in
    let at = is_at c.args.b.now (length c.points.yielded) c.in-Some.p t.0 t.1 in
    let r : SFits w64 c.get.result = search rules in
    rw (one_longer c.points.yielded c.in-Some.p)
    (copy_more _ _ _ _ (length c.points.yielded) _ c.in_ok-push.ensures.items c.points.invariant
    (to_z-of_z w64 _ r ∙ c.get.ensures ∙ ap (number_at c.args.self.now c.args.v 0) at.place
    ∙ grid_values c.args.self.now c.args.v c.requires.level _))

pub returns : goal.returns
returns c =
    let pts = points_in c.args.b.now in
    let begins = c.into_iter-p-iterator.ensures.into_iter_gives ∙ c.rows-p-items.ensures in
    let road = YieldsList-from_first (λ x. x) (λ left. left) {s = c.into_iter-p-iterator.result}
    pts begins in
    let t = YieldsList-end road c.points.yielded _ c.points.yielded_by _ c.next.new.self
    c.in-None.is c.next.ensures.steps in
    let all : length c.points.yielded ≡ point_count c.args.b.now = let n = t.1 in
    omega (arith, n, count_is c.args.b.now) in
    c.points.invariant ∙ ap
    (λ n. c.args.out.now.items
    ++ map (λ i. values_in c.args.self.now c.args.v 0 (point_in c.args.b.now i))
    (range_with_len 0 n)) all
