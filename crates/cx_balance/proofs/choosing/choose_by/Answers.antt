use Rattle.std.proofs.Common.{◌≡◌, ◌<◌, ◌≤◌, ◌*◌, ◌-◌, ◌∷◌, [], ◌++◌, subst, arith}
use Rattle.cx_cut.specs.Axis.{sum_of}
use Rattle.cx_balance.specs.Walking.{HasWalked}
use Rattle.cx_balance.proofs.WalkLaws.{goal_within, choosing_on}
use Rattle.cx_balance.proofs.choosing.choose_by.Goals as goal

pub overflow_mul-j : goal.overflow_mul-j
overflow_mul-j c =
    let fits = goal_within c.args.planes.now c.args.parts c.args.least c.parts.j
    c.total_weight-total.result c.requires c.parts.invariant.within
    c.total_weight-total.ensures in
    omega (arith, fits)

pub parts-preserved : goal.parts-preserved
parts-preserved c =
    let planes = c.args.planes.now in
    let more : c.parts.j < c.args.parts = omega (arith, c.parts-test.true) in
    let total : c.total_weight-total.result ≡ sum_of planes = c.total_weight-total.ensures in
    let walk = subst (λ n. HasWalked planes c.args.parts (c.parts.j * n) c.reach.new.walk.end
    c.reach.new.walk.weight) total c.reach.ensures.walk in
    let reached = subst (λ n. c.parts.j * n ≤ c.args.parts * c.reach.new.walk.weight) total
    c.reach.ensures.reached in
    let pushed : c.push.new.self
    ≡ c.parts.widths ++ (c.next_place-next.result - c.parts.place) ∷ []
    = c.in_ok-push.ensures.ok in
    choosing_on planes c.args.parts c.args.least c.parts.j c.parts.place c.parts.widths
    c.parts.walk.end c.parts.walk.weight c.reach.new.walk.end c.reach.new.walk.weight
    c.next_place-next.result c.push.new.self c.parts.invariant more walk reached
    c.next_place-next.ensures.value c.next_place-next.ensures.room pushed
