use Rattle.std.proofs.Common.{rules, refl, arith, ◌<◌, pos, length, slice_index_or, SFits, w64, to_z-of_z}
use Rattle.cx_balance.specs.Weighing.{number_weight}
use Rattle.cx_balance.proofs.AddLaws.{adding_start, one_added}
use Rattle.cx_balance.proofs.weighing.add_points.Goals as goal

pub points-init : goal.points-init
points-init c =
    adding_start (λ k. number_weight c.args.factor (slice_index_or c.args.row.now k (pos 0)))
    c.args.weights.now

pub overflow_add-weights : goal.overflow_add-weights
overflow_add-weights c =
    let same = c.points.invariant.same c.points.k (omega arith) in
    let room : c.points.k < length c.args.weights.now = search rules in
    let light = c.requires.light c.points.k room in
    let most = c.number_weight.ensures.most in
    omega (arith, same, light, most)

pub points-preserved : goal.points-preserved
points-preserved c =
    let fits : SFits w64 (slice_index_or c.args.row.now c.points.k (pos 0)) = search rules in
    let room : c.points.k < length c.points.weights = search rules in
    one_added (λ k. number_weight c.args.factor (slice_index_or c.args.row.now k (pos 0)))
    c.args.weights.now c.points.weights c.points.k c.number_weight.result _ room
    (rw (to_z-of_z fits) at c.number_weight.ensures.value) refl c.points.invariant

pub returns : goal.returns
returns c = λ k l. c.points.invariant.more k (search rules)
