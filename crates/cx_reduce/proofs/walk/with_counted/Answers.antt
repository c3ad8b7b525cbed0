use Rattle.std.proofs.Common.{◌≡◌, ◌∙◌, ap, rules, to_z, of_z, Some, ◌+ℤ◌}
use Rattle.std.specs.Int.{w128}
use Rattle.cx_reduce.proofs.Running.{counted_behind, counted_first}
use Rattle.cx_reduce.proofs.walk.with_counted.Goals as goal

pub returns-in-Some-clause-value : goal.returns-in-Some-clause-value
returns-in-Some-clause-value c =
    let as_it_is : to_z w128 (of_z w128 c.combine.result) ≡ c.combine.result = search rules in
    let before : to_z w128 (of_z w128 c.in-Some.so_far) ≡ c.in-Some.so_far = search rules in
    let here : to_z w128 (of_z w128 c.from-counted.result) ≡ c.from-counted.result = search rules in
    ap Some as_it_is ∙ counted_behind c.args.number c.in-Some.so_far c.from-counted.result
    c.combine.result c.counted_in.result c.args.row.now c.in-Some.is c.counted_in.ensures.value
    c.from-counted.ensures (c.combine.ensures.value
    ∙ ap (λ a. a +ℤ to_z w128 (of_z w128 c.from-counted.result)) before
    ∙ ap (λ b. c.in-Some.so_far +ℤ b) here)

pub returns-in-None-clause-value : goal.returns-in-None-clause-value
returns-in-None-clause-value c =
    let as_it_is : to_z w128 (of_z w128 c.from-counted.result) ≡ c.from-counted.result =
    search rules in
    ap Some as_it_is
    ∙ counted_first c.args.number c.from-counted.result c.counted_in.result c.args.row.now
    c.in-None.is c.requires.some c.counted_in.ensures.value c.from-counted.ensures
