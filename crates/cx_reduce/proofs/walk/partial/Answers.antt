use Rattle.std.proofs.Common.{◌≡◌, ◌∙◌, ◌≤◌, ◌<◌, ◌+◌, ◌*◌, ap, sym, subst, rules, arith, length, map, Some, to_z, of_z}
use Rattle.std.specs.Int.{w128}
use Rattle.std.specs.List.{range_with_len}
use Rattle.std.proofs.lemmas.List.FromFn.{length-map-range_with_len}
use Rattle.cx_grid.specs.declared.boxes.Box3.{Box3}
use Rattle.cx_grid.specs.Boxes.{extent, point_count}
use Rattle.cx_field.specs.Patches.{number_at}
use Rattle.cx_rule.specs.Patches.{beside}
use Rattle.cx_rule.proofs.RunLaws.{row_next, rows_all}
use Rattle.cx_rule.specs.Runs.{row_count}
use Rattle.cx_reduce.specs.Partials.{IsWithin, IsBounded}
use Rattle.cx_reduce.proofs.Counts.{some_points}
use Rattle.cx_reduce.proofs.Rows.{running_over, own_few, own_row, running_row, reduced_all}
use Rattle.cx_reduce.proofs.Running.{is_reduced}
use Rattle.cx_reduce.proofs.walk.partial.Goals as goal

pub row_count-row-end-requires-clause-small : goal.row_count-row-end-requires-clause-small
row_count-row-end-requires-clause-small c =
    let few = own_few c.args.patch.now c.owned-owned.result.now c.owned-owned.ensures.patch
    c.owned-owned.ensures.value in omega (arith, few)

pub row_start-start-requires-clause-small : goal.row_start-start-requires-clause-small
row_start-start-requires-clause-small c =
    let few = own_few c.args.patch.now c.owned-owned.result.now c.owned-owned.ensures.patch
    c.owned-owned.ensures.value in omega (arith, few)

pub point_at-requires-clause-small : goal.point_at-requires-clause-small
point_at-requires-clause-small c =
    let few = own_few c.args.patch.now c.owned-owned.result.now c.owned-owned.ensures.patch
    c.owned-owned.ensures.value in omega (arith, few)

pub row-numbers-requires-clause-low : goal.row-numbers-requires-clause-low
row-numbers-requires-clause-low c =
    (own_row c.args.patch.now c.owned-owned.result.now c.rows.row c.row_start-start.result
    c.point_at.result c.owned-owned.ensures.patch c.owned-owned.ensures.value
    c.row_start-start.ensures.value c.row_start-start.ensures.room c.point_at.ensures.value
    c.point_at.ensures.inside).near

pub row-numbers-requires-clause-high : goal.row-numbers-requires-clause-high
row-numbers-requires-clause-high c =
    rw c.width.ensures
    (own_row c.args.patch.now c.owned-owned.result.now c.rows.row c.row_start-start.result
    c.point_at.result c.owned-owned.ensures.patch c.owned-owned.ensures.value
    c.row_start-start.ensures.value c.row_start-start.ensures.room c.point_at.ensures.value
    c.point_at.ensures.inside).within

pub overflow_cast-start : goal.overflow_cast-start
overflow_cast-start c =
    let few = own_few c.args.patch.now c.owned-owned.result.now c.owned-owned.ensures.patch
    c.owned-owned.ensures.value in
    omega (arith, few, c.row_start-start.ensures.room)

pub with_row-requires-clause-some : goal.with_row-requires-clause-some
with_row-requires-clause-some c =
    let r = own_row c.args.patch.now c.owned-owned.result.now c.rows.row c.row_start-start.result
    c.point_at.result c.owned-owned.ensures.patch c.owned-owned.ensures.value
    c.row_start-start.ensures.value c.row_start-start.ensures.room c.point_at.ensures.value
    c.point_at.ensures.inside in
    let some = r.some in
    let count = ap length c.row-numbers.ensures
    ∙ length-map-range_with_len
    (λ i. number_at c.args.patch.now c.args.v c.args.level (beside c.point_at.result i))
    0 c.width.result in
    omega (arith, some, count, c.width.ensures)

pub with_row-requires-clause-few : goal.with_row-requires-clause-few
with_row-requires-clause-few c =
    let few = own_few c.args.patch.now c.owned-owned.result.now c.owned-owned.ensures.patch
    c.owned-owned.ensures.value in
    let count = ap length c.row-numbers.ensures
    ∙ length-map-range_with_len
    (λ i. number_at c.args.patch.now c.args.v c.args.level (beside c.point_at.result i))
    0 c.width.result in
    omega (arith, few, count, c.width.ensures, c.row_start-start.ensures.room)

pub rows-preserved : goal.rows-preserved
rows-preserved c =
    let p = c.args.patch.now in
    let b = c.owned-owned.result.now in
    let same = c.owned-owned.ensures.value in
    let f = number_at p c.args.v c.args.level in
    let now = to_z w128 (of_z w128 c.with_row.result) in
    let as_it_is : to_z w128 (of_z w128 c.with_row.result) ≡ c.with_row.result = search rules in
    let r = own_row p b c.rows.row c.row_start-start.result c.point_at.result
    c.owned-owned.ensures.patch same
    c.row_start-start.ensures.value c.row_start-start.ensures.room c.point_at.ensures.value
    c.point_at.ensures.inside in
    let next : (c.rows.row + 1) * extent b 0 ≡ c.row_start-start.result + extent b 0 =
    row_next c.rows.row (extent b 0)
    ∙ ap (λ n. n + extent b 0) (sym c.row_start-start.ensures.value)
    in
    let numbers = c.row-numbers.ensures
    ∙ ap (λ n. map (λ i. f (beside c.point_at.result i)) (range_with_len 0 n))
    c.width.ensures in
    let count = ap length numbers
    ∙ length-map-range_with_len (λ i. f (beside c.point_at.result i)) 0 (extent b 0) in
    let before : c.rows.number ≡ running_over c.args.kind b f c.row_start-start.result =
    subst (λ (o : Box3). c.rows.number ≡ running_over c.args.kind o f (c.rows.row * extent o 0))
    (sym same) c.rows.invariant.0
    ∙ ap (running_over c.args.kind b f) (sym c.row_start-start.ensures.value)
    in
    let value = running_row c.args.kind b f c.row_start-start.result (extent b 0)
    ((c.rows.row + 1) * extent b 0) c.point_at.result c.rows.number (Some now)
    c.row-numbers.result.now
    next r.points numbers before (ap Some as_it_is ∙ c.with_row.ensures.value) in
    let points : c.row_start-start.result + length c.row-numbers.result.now
    ≡ (c.rows.row + 1) * extent b 0 = omega (arith, count, next) in
    let some : 0 < (c.rows.row + 1) * extent b 0 = let s = r.some in omega (arith, s, next) in
    let within : IsWithin ((c.rows.row + 1) * extent b 0) now =
    subst (λ n. IsWithin n now) points
    (subst (IsWithin (c.row_start-start.result + length c.row-numbers.result.now))
    (sym as_it_is) c.with_row.ensures.within)
    in
    subst (λ (o : Box3). (Some now ≡ running_over c.args.kind o f ((c.rows.row + 1) * extent o 0))
    × IsBounded ((c.rows.row + 1) * extent o 0) (Some now)) same
    (value, (some, within))

pub count-requires-clause-small : goal.count-requires-clause-small
count-requires-clause-small c =
    let few = own_few c.args.patch.now c.owned-owned.result.now c.owned-owned.ensures.patch
    c.owned-owned.ensures.value in omega (arith, few)

pub overflow_cast-result : goal.overflow_cast-result
overflow_cast-result c =
    let few = own_few c.args.patch.now c.owned-owned.result.now c.owned-owned.ensures.patch
    c.owned-owned.ensures.value in omega (arith, few, c.count.ensures)

pub invariant_of-result : goal.invariant_of-result
invariant_of-result c =
    let p = c.args.patch.now in
    let b = c.owned-owned.result.now in
    let same = c.owned-owned.ensures.value in
    let few = own_few p b c.owned-owned.ensures.patch same in
    let part = c.owned-owned.ensures.patch.part in
    let some : 1 ≤ point_count b =
    subst (λ (o : Box3). 1 ≤ point_count o) (sym same)
    (some_points p.shape p.owned p.local part) in
    let k : c.rows.row ≡ row_count b =
    omega (arith, c.rows-test.false, c.rows.auto.row-end, c.row_count-row-end.ensures) in
    let all : c.rows.row * extent b 0 ≡ c.count.result =
    rows_all b c.rows.row k ∙ sym c.count.ensures in
    let bounded : IsBounded c.count.result c.rows.number =
    subst (λ n. IsBounded n c.rows.number) all
    (subst (λ (o : Box3). IsBounded (c.rows.row * extent o 0) c.rows.number) (sym same)
    c.rows.invariant.1)
    in
    let as_it_is : to_z w128 (of_z w128 c.unwrap_or.result) ≡ c.unwrap_or.result = search rules in
    rw as_it_is
    (is_reduced c.args.kind c.count.result c.rows.number c.unwrap_or.result c.unwrap_or.ensures
    bounded (omega (arith, some, c.count.ensures)) (omega (arith, few, c.count.ensures)))

pub returns : goal.returns
returns c =
    let p = c.args.patch.now in
    let b = c.owned-owned.result.now in
    let same = c.owned-owned.ensures.value in
    let f = number_at p c.args.v c.args.level in
    let k : c.rows.row ≡ row_count b =
    omega (arith, c.rows-test.false, c.rows.auto.row-end, c.row_count-row-end.ensures) in
    let as_it_is : to_z w128 (of_z w128 c.unwrap_or.result) ≡ c.unwrap_or.result = search rules in
    let number = subst (λ (o : Box3). c.rows.number
    ≡ running_over c.args.kind o f (c.rows.row * extent o 0)) (sym same) c.rows.invariant.0 in
    rw (as_it_is, ← same)
    (reduced_all c.args.kind c.requires.kind c.count.result b f (c.rows.row * extent b 0)
    c.rows.number c.unwrap_or.result c.count.ensures
    (rows_all b c.rows.row k) number c.unwrap_or.ensures)
