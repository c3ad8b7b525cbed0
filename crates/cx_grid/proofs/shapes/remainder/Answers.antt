use Rattle.std.proofs.Common.{arith, sym, ◌∙◌, ◌≤ℤ◌, ◌<ℤ◌, pos}
use Rattle.std.proofs.lemmas.Int.{ints, to_z-of_z}
use Rattle.cx_grid.proofs.Remainders.{own_remainder}
use Rattle.cx_grid.proofs.shapes.remainder.Goals as goal

pub returns-then-c-n-clause-value : goal.returns-then-c-n-clause-value
returns-then-c-n-clause-value c =
    let from : pos 0 ≤ℤ c.args.c = omega (arith, ints) in
    let below : c.args.c <ℤ c.args.n = omega (arith, ints) in
    to_z-of_z _ _ c.ranges.c ∙ sym (own_remainder c.args.c c.args.n from below)
