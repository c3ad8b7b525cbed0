use Rattle.std.proofs.Common.{◌∙◌, ◌<◌, ◌≤◌, ap, arith}
use Rattle.cx_grid.specs.Boxes.{point_count, index_in}
use Rattle.cx_grid.proofs.Places.{index_at_point}
use Rattle.cx_field.specs.Patches.{PatchValue}
use Rattle.cx_field.proofs.PartPoints.{names_grid}
use Rattle.cx_core_buffers.proofs.FillLaws.{fill_run, fill_all}
use Rattle.cx_core_buffers.proofs.scattering.fill_level.Goals as goal

pub run_from-run-requires-clause-near : goal.run_from-run-requires-clause-near
run_from-run-requires-clause-near c =
    let p = c.args.patch.now in
    let inside = rw c.local.ensures.value at c.point_at-low.ensures.inside in
    rw c.shape.ensures.value
    (names_grid p.shape p.owned p.local c.shape.ensures.patch.part c.point_at-low.result inside)

pub put_row-requires-clause-high : goal.put_row-requires-clause-high
put_row-requires-clause-high c =
    let e = ap (λ (q : PatchValue). q.local) c.runs.invariant in
    rw e (rw c.local.ensures.value at c.run_from-run.ensures.within)

pub runs-preserved : goal.runs-preserved
runs-preserved c =
    let p = c.args.patch.now in
    let n = rw c.local.ensures.value at c.count-end.ensures in
    let l : c.runs.at < point_count p.local = omega (arith, n, c.runs-test.true) in
    let inside = rw c.local.ensures.value at c.point_at-low.ensures.inside in
    let value = rw c.local.ensures.value at c.point_at-low.ensures.value in
    let place = ap (index_in p.local) value ∙ index_at_point p.local c.runs.at l in
    let within = rw c.local.ensures.value at c.run_from-run.ensures.within in
    let numbers = rw c.shape.ensures.value at c.run_from-run.ensures.numbers in
    c.put_row.ensures
    ∙ fill_run p c.runs.patch c.args.v c.args.level c.runs.at c.args.numbers.now
    c.point_at-low.result c.run_from-run.result.now c.shape.ensures.patch c.requires.stored inside
    place within numbers c.runs.invariant

pub returns : goal.returns
returns c =
    let p = c.args.patch.now in
    let n = rw c.local.ensures.value at c.count-end.ensures in
    let l : point_count p.local ≤ c.runs.at = omega (arith, n, c.runs-test.false) in
    c.runs.invariant ∙ fill_all p c.args.v c.args.level c.runs.at c.args.numbers.now
    c.shape.ensures.patch c.requires.stored l
