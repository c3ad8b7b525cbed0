use Rattle.std.proofs.Common.{◌≡◌, ◌∙◌, ◌<◌, ◌+◌, ap, sym, subst, refl, rules, arith, length, get_or, pos, Some, to_z, of_z}
use Rattle.std.specs.Int.{w64, w128}
use Rattle.std.proofs.lemmas.List.{get_or_default}
use Rattle.cx_reduce.specs.Partials.{IsWithin, one_more}
use Rattle.cx_reduce.proofs.Rows.{folded_more, told_all}
use Rattle.cx_reduce.proofs.walk.with_each.Goals as goal

pub values-init : goal.values-init
values-init c = (refl, omega arith, c.requires.before)

pub with_point-requires-clause-before : goal.with_point-requires-clause-before
with_point-requires-clause-before c = c.values.invariant.2

pub with_point-requires-clause-few : goal.with_point-requires-clause-few
with_point-requires-clause-few c = let passed = c.values.invariant.1 in
    omega (arith, passed, c.values-test.true, c.requires.few)

pub overflow_add-passed : goal.overflow_add-passed
overflow_add-passed c = let passed = c.values.invariant.1 in
    omega (arith, passed, c.values-test.true, c.requires.few)

pub values-preserved : goal.values-preserved
values-preserved c =
    let row = c.args.row.now in
    let k = c.values.value-index in
    let as_it_is : to_z w128 (of_z w128 c.with_point.result) ≡ c.with_point.result = search rules in
    let got : to_z w64 (of_z w64 (get_or row k (pos 0))) ≡ get_or row k (pos 0) = search rules in
    let next = ap Some as_it_is ∙ c.with_point.ensures.value
    ∙ ap (one_more c.args.kind c.values.so_far) got in
    let here : get_or row k (pos 0) ≡ get_or row k (get_or row k (pos 0)) =
    get_or_default row k (pos 0) (get_or row k (pos 0)) c.values-test.true in
    let passed = c.values.invariant.1 in (
      folded_more c.args.kind c.args.number c.values.so_far
          (Some (to_z w128 (of_z w128 c.with_point.result))) row k (get_or row k (pos 0))
          c.values-test.true here c.values.invariant.0 next,
      omega (arith, passed),
      (
        omega arith,
        subst (IsWithin (c.values.passed + 1)) (sym as_it_is)
            c.with_point.ensures.within,
      ),
    )

pub returns-clause-value : goal.returns-clause-value
returns-clause-value c =
    let as_it_is : to_z w128 (of_z w128 c.unwrap_or.result) ≡ c.unwrap_or.result = search rules in
    let passed = c.values.invariant.1 in
    let all : c.values.value-index ≡ length c.args.row.now =
    omega (arith, c.values-test.false, c.values.auto.value-index-end) in
    let some : 0 < c.values.passed = omega (arith, passed, all, c.requires.some) in
    ap Some as_it_is
    ∙ (told_all c.args.kind c.args.number c.values.so_far c.args.row.now c.values.passed
    c.values.value-index c.unwrap_or.result all some c.values.invariant.2 c.values.invariant.0
    c.unwrap_or.ensures).0

pub returns-clause-within : goal.returns-clause-within
returns-clause-within c =
    let as_it_is : to_z w128 (of_z w128 c.unwrap_or.result) ≡ c.unwrap_or.result = search rules in
    let passed = c.values.invariant.1 in
    let all : c.values.value-index ≡ length c.args.row.now =
    omega (arith, c.values-test.false, c.values.auto.value-index-end) in
    let some : 0 < c.values.passed = omega (arith, passed, all, c.requires.some) in
    let points : c.values.passed ≡ c.args.points + length c.args.row.now =
    omega (arith, passed, all) in
    subst (λ n. IsWithin n (to_z w128 (of_z w128 c.unwrap_or.result))) points
    (subst (IsWithin c.values.passed) (sym as_it_is)
    (told_all c.args.kind c.args.number c.values.so_far c.args.row.now c.values.passed
    c.values.value-index c.unwrap_or.result all some c.values.invariant.2 c.values.invariant.0
    c.unwrap_or.ensures).1)
