use Rattle.std.proofs.Common.{◌<◌, ◌*◌, arith}
use Rattle.cx_balance.proofs.WalkLaws.{walk_fits, walk_index, walk_on}
use Rattle.cx_balance.proofs.choosing.reach.Goals as goal

pub overflow_mul-parts : goal.overflow_mul-parts
overflow_mul-parts c =
    let fits = walk_fits c.args.planes.now c.args.parts c.args.goal c.planes.walk.end
    c.planes.walk.weight c.planes.invariant c.requires.fits in
    omega (arith, fits)

pub planes-preserved : goal.planes-preserved
planes-preserved c =
    let small : c.args.parts * c.planes.walk.weight < c.args.goal
    = omega (arith, c.planes-test.true) in
    let there = walk_index c.args.planes.now c.args.parts c.args.goal c.planes.walk.end
    c.planes.walk.weight c.planes.invariant small c.requires.goal in
    walk_on c.args.planes.now c.args.parts c.args.goal c.planes.walk.end c.planes.walk.weight 0
    c.planes.invariant small there
