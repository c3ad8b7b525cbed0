use Rattle.std.proofs.Common.{arith, ◌+◌, ◌*◌, ◌/◌, ◌^◌, ◌≤◌, length, slice_index_or}
use Rattle.std.specs.Fork.{slice_chunk}
use Rattle.std.specs.List.{sum_by}
use Rattle.std.proofs.Math.Nat.{div-le_self}
use Rattle.cx_balance.specs.Weighing.{number_weight}
use Rattle.cx_balance.proofs.SumLaws.{block_added, blocks_added, stretches_light}
use Rattle.cx_balance.proofs.WeightLaws.{number_most}
use Rattle.cx_balance.proofs.weighing.add_level.Goals as goal

pub add_block-requires-clause-light : goal.add_block-requires-clause-light
add_block-requires-clause-light c = λ k l.
    let many = length c.args.weights.now in
    let size = c.rounds.auto.weights in
    let value = c.rounds.invariant k (omega (arith, size, l)) in
    let few = div-le_self (length c.args.level.now) (many * c.args.stretch) in
    let below = c.rounds-test.true in
    let times : c.rounds.b ≤ 2 ^ 24 = omega (arith, few, below, c.requires.points) in
    let light = stretches_light (number_weight c.args.factor) c.args.level.now c.args.stretch
    (λ b. b * many + k) c.rounds.b (λ n. number_most c.args.factor n c.requires.factor)
    c.requires.points times in
    omega (arith, value, light)

pub rounds-preserved : goal.rounds-preserved
rounds-preserved c = λ k l.
    let size = c.rounds.auto.weights in
    block_added (number_weight c.args.factor) c.args.level.now (length c.args.weights.now)
    c.args.stretch c.rounds.b k (slice_index_or c.rounds.weights k 0)
    (slice_index_or c.add_block.new.weights k 0) l (c.rounds.invariant k l)
    (c.add_block.ensures k (omega (arith, size, l)))

pub returns : goal.returns
returns c = λ k l.
    let many = length c.args.weights.now in
    blocks_added (λ b. sum_by (number_weight c.args.factor)
    (slice_chunk c.args.level.now c.args.stretch (b * many + k))) c.rounds.b
    (length c.args.level.now / (many * c.args.stretch)) (slice_index_or c.rounds.weights k 0)
    (c.rounds.invariant k l) c.rounds.auto.b-end c.rounds-test.false
