use Rattle.std.proofs.Common.{◌≡◌, ◌∙◌, ap, arith, sym, length}
use Rattle.std.proofs.lemmas.List.{length-replicate, take_at}
use Rattle.cx_balance.proofs.PlaneSums.{blocks_by, weights_are}
use Rattle.cx_balance.proofs.weighing.weighed_planes.Goals as goal

pub add_level-requires-clause-some : goal.add_level-requires-clause-some
add_level-requires-clause-some c =
    let size : length c.deref_mut.result.now ≡ c.along.result =
    ap length c.deref_mut.ensures.value
    ∙ ap length (c.in_ok-weights.ensures.items_if_clones_equal (λ y same. same))
    ∙ length-replicate c.along.result 0 in
    (blocks_by c.args.shape.now c.requires.shape c.args.dir (length c.deref_mut.result.now)
    c.stretch.result c.requires.direction (size ∙ c.along.ensures) c.stretch.ensures).0

pub add_level-requires-clause-few : goal.add_level-requires-clause-few
add_level-requires-clause-few c =
    let size : length c.deref_mut.result.now ≡ c.along.result =
    ap length c.deref_mut.ensures.value
    ∙ ap length (c.in_ok-weights.ensures.items_if_clones_equal (λ y same. same))
    ∙ length-replicate c.along.result 0 in
    (blocks_by c.args.shape.now c.requires.shape c.args.dir (length c.deref_mut.result.now)
    c.stretch.result c.requires.direction (size ∙ c.along.ensures) c.stretch.ensures).1

pub returns : goal.returns
returns c =
    let size : length c.deref_mut.result.now ≡ c.along.result =
    ap length c.deref_mut.ensures.value
    ∙ ap length (c.in_ok-weights.ensures.items_if_clones_equal (λ y same. same))
    ∙ length-replicate c.along.result 0 in
    let kept : length c.add_level.new.weights ≡ length c.deref_mut.result.now =
    c.add_level.auto.weights in
    c.new.ensures
    ∙ take_at c.add_level.new.weights _ c.in_ok-weights.weights.len
    (kept ∙ size ∙ sym c.in_ok-weights.ensures.len)
    ∙ weights_are c.args.shape.now c.requires.shape c.args.factor c.args.level.now
    c.requires.points c.args.dir (length c.deref_mut.result.now) c.stretch.result
    c.add_level.new.weights c.requires.direction (size ∙ c.along.ensures) c.stretch.ensures kept
    c.add_level.ensures
