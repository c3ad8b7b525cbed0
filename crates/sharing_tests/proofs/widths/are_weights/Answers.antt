use Rattle.std.proofs.Common.{rules, ◌<◌, ◌≤◌, ◌^◌, length, slice_index_or, arith}
use Rattle.sharing_tests.proofs.WeightLaws.{more, all}
use Rattle.sharing_tests.proofs.widths.are_weights.Goals as goal

pub planes-preserved : goal.planes-preserved
planes-preserved c =
    let ws = c.args.planes.now in
    let i = c.planes.plane-index in
    let there : i < length ws = omega (arith, c.planes-test.true) in
    let least : 1 ≤ slice_index_or ws i 0 = omega (arith, c.if-plane-lt1.false) in
    let most : slice_index_or ws i 0 ≤ 2 ^ 70 = omega (arith, c.if-plane.false) in (
      more (λ w. 1 ≤ w) ws i 0 there c.planes.invariant.0 least,
      more (λ w. w ≤ 2 ^ 70) ws i 0 there c.planes.invariant.1 most,
    )

pub returns-clause-some : goal.returns-clause-some
returns-clause-some c = λ _.
    let done : length c.args.planes.now ≤ c.planes.plane-index = search rules in
    all (λ w. 1 ≤ w) c.args.planes.now c.planes.plane-index done c.planes.invariant.0

pub returns-clause-most : goal.returns-clause-most
returns-clause-most c = λ _.
    let done : length c.args.planes.now ≤ c.planes.plane-index = search rules in
    all (λ w. w ≤ 2 ^ 70) c.args.planes.now c.planes.plane-index done c.planes.invariant.1
