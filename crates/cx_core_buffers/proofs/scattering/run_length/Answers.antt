use Rattle.std.proofs.Common.{◌≡◌, ◌≤◌, pos, ◌+ℤ◌, rules, arith}
use Rattle.std.proofs.lemmas.Int.{ints}
use Rattle.std.proofs.Math.Nat.{min-le_left, min-le_right, le-min}
use Rattle.cx_core_buffers.proofs.scattering.run_length.Goals as goal

pub returns-clause-some : goal.returns-clause-some
returns-clause-some c =
    let a : (c.args.low.x +ℤ pos c.gap.result) ≡ c.args.local.now.high.x = search rules in
    let b : (c.args.first.x +ℤ pos c.gap-2.result) ≡ c.args.shape.now.n.x = search rules in
    let left : 1 ≤ c.gap.result = omega (arith, ints, a, c.requires.low.x.below) in
    let grid_left : 1 ≤ c.gap-2.result = omega (arith, ints, b, c.requires.first.x.below) in
    let least = le-min left grid_left in
    omega (arith, c.min.ensures, least)

pub returns-clause-local : goal.returns-clause-local
returns-clause-local c =
    let a : (c.args.low.x +ℤ pos c.gap.result) ≡ c.args.local.now.high.x = search rules in
    let least = min-le_left c.gap.result c.gap-2.result in
    omega (arith, ints, c.min.ensures, least, a)

pub returns-clause-grid : goal.returns-clause-grid
returns-clause-grid c =
    let b : (c.args.first.x +ℤ pos c.gap-2.result) ≡ c.args.shape.now.n.x = search rules in
    let least = min-le_right c.gap.result c.gap-2.result in
    omega (arith, ints, c.min.ensures, least, b)
