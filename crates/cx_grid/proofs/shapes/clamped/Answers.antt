use Rattle.std.proofs.Common.{arith, ◌≡◌, false}
use Rattle.std.proofs.lemmas.Int.{ints, clamps}
use Rattle.cx_grid.proofs.shapes.clamped.Goals as goal

pub returns-else-periodic : goal.returns-else-periodic
returns-else-periodic c =
    let line : c.args.periodic ≡ false = c.if-periodic.false in
    rw line (record {
      value = omega (arith, ints, clamps, c.min.ensures.value, c.max.ensures.value);
    })
