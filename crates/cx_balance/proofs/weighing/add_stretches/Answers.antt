use Rattle.std.proofs.Common.{rules, refl, arith, ap, ◌∙◌, ◌<◌, length}
use Rattle.std.specs.Fork.{slice_chunk}
use Rattle.std.specs.List.{sum_by}
use Rattle.cx_balance.specs.Weighing.{number_weight}
use Rattle.cx_balance.proofs.AddLaws.{adding_start, one_added}
use Rattle.cx_balance.proofs.SumLaws.{chunk_is}
use Rattle.cx_balance.proofs.weighing.add_stretches.Goals as goal

pub planes-init : goal.planes-init
planes-init c =
    adding_start
    (λ k. sum_by (number_weight c.args.factor) (slice_chunk c.args.block.now c.args.stretch k))
    c.args.weights.now

pub overflow_add-weights : goal.overflow_add-weights
overflow_add-weights c =
    let same = c.planes.invariant.same c.planes.k (omega arith) in
    let room : c.planes.k < length c.args.weights.now = search rules in
    let light = c.requires.light c.planes.k room in
    let most = c.stretch_weight.ensures.most in
    omega (arith, same, light, most)

pub planes-preserved : goal.planes-preserved
planes-preserved c =
    let room : c.planes.k < length c.planes.weights = search rules in
    one_added
    (λ k. sum_by (number_weight c.args.factor) (slice_chunk c.args.block.now c.args.stretch k))
    c.args.weights.now c.planes.weights c.planes.k c.stretch_weight.result _ room
    (c.stretch_weight.ensures.value
    ∙ ap (sum_by (number_weight c.args.factor))
    (chunk_is c.args.block.now c.args.stretch c.planes.k)) refl c.planes.invariant

pub returns : goal.returns
returns c = λ k l. c.planes.invariant.more k (search rules)
