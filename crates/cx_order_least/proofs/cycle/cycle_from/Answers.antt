use Rattle.cx_order_least.specs.Links.{links}
use Rattle.cx_order_least.proofs.CycleWalks.{turned-front}
use Rattle.cx_order_least.proofs.cycle.cycle_from.Goals as goal

pub returns : goal.returns
returns c =
    let walk = c.in_ok-walk_back.field-0 in
    let told = c.in_ok-walk_back.ensures in
    let cut = c.cycle_of-cycle.ensures in
    let least = c.least_place-place in
    turned-front (λ a b. links c.args.before.now b a)
    walk.last walk.path.items c.cycle_of-cycle.result.items c.deref.result.now
    c.rotate_left.new.self.items cut.0 least.result told.chain told.once cut.1 cut.2 cut.3
    c.deref.ensures.value least.ensures.within least.ensures.least c.rotate_left.ensures.items
