use Rattle.std.proofs.Common.{arith, ap, sym, ◌≡◌, ◌∙◌, ◌+◌, ◌<◌, ◌*◌, pos, length, slice_index_or}
use Rattle.std.specs.Fork.{slice_chunk}
use Rattle.std.specs.List.{sum_by}
use Rattle.cx_balance.specs.Weighing.{number_weight}
use Rattle.cx_balance.proofs.SumLaws.{chunk_one}
use Rattle.cx_balance.proofs.weighing.add_block.Goals as goal

pub add_points-requires-clause-room : goal.add_points-requires-clause-room
add_points-requires-clause-room c =
    let one : length c.args.weights.now * 1 ≡ length c.args.weights.now = omega arith in
    c.requires.room ∙ ap (λ n. length c.args.weights.now * n) c.if-stretch-eq1.true ∙ one

pub returns-then-stretch-eq1 : goal.returns-then-stretch-eq1
returns-then-stretch-eq1 c = λ k l.
    let one : length c.args.weights.now * 1 ≡ length c.args.weights.now = omega arith in
    let room : length c.args.block.now ≡ length c.args.weights.now =
    c.requires.room ∙ ap (λ n. length c.args.weights.now * n) c.if-stretch-eq1.true ∙ one in
    let there : k < length c.args.block.now = omega (arith, room, l) in
    c.add_points.ensures k l
    ∙ ap (λ n. slice_index_or c.args.weights.now k 0 + n)
    (sym (chunk_one (number_weight c.args.factor) c.args.block.now k (pos 0) there)
    ∙ ap (λ n. sum_by (number_weight c.args.factor) (slice_chunk c.args.block.now n k))
    (sym c.if-stretch-eq1.true))
