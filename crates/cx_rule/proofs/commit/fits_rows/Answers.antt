use Rattle.std.proofs.Common.{◌≡◌, ◌∙◌, ◌<◌, ◌&&◌, ◌+◌, ◌*◌, sym, ap, arith, w64, to_z, of_z}
use Rattle.std.specs.List.{list_all}
use Rattle.std.proofs.lemmas.Int.{to_z-of_z}
use Rattle.cx_grid.specs.Boxes.{extent}
use Rattle.cx_rule.specs.Runs.{row_count, fits_at}
use Rattle.cx_rule.proofs.CommitLaws.{rest_of_points, tested_none}
use Rattle.cx_rule.proofs.RunLaws.{row_room, rows_all}
use Rattle.cx_rule.proofs.RowLaws.{row_tested}
use Rattle.cx_rule.proofs.commit.fits_rows.Goals as goal

pub returns-then-not-fits_row : goal.returns-then-not-fits_row
returns-then-not-fits_row c =
    let b = c.args.b.now in
    let test = fits_at b c.args.zone.now c.args.values.now (to_z w64 (of_z w64 c.args.low))
    (to_z w64 (of_z w64 c.args.high)) in
    let below : c.rows.row < row_count b =
    omega (arith, c.rows-test.true, c.row_count-row-end.ensures) in
    let step = row_tested b test c.rows.row
    (row_room (extent b 0) (extent b 1) (extent b 2) c.rows.row below) in
    let one = c.fits_row.ensures in
    let rest = list_all test (rest_of_points b ((c.rows.row + 1) * extent b 0)) in
    rw (to_z-of_z w64 _ c.ranges.low, to_z-of_z w64 _ c.ranges.high) at
    (sym (sym c.rows.invariant ∙ step ∙ ap (λ t. t && rest) (sym one ∙ c.if-not-fits_row.true)))

pub rows-preserved : goal.rows-preserved
rows-preserved c =
    let b = c.args.b.now in
    let test = fits_at b c.args.zone.now c.args.values.now (to_z w64 (of_z w64 c.args.low))
    (to_z w64 (of_z w64 c.args.high)) in
    let below : c.rows.row < row_count b =
    omega (arith, c.rows-test.true, c.row_count-row-end.ensures) in
    let step = row_tested b test c.rows.row
    (row_room (extent b 0) (extent b 1) (extent b 2) c.rows.row below) in
    let one = c.fits_row.ensures in
    let rest = list_all test (rest_of_points b ((c.rows.row + 1) * extent b 0)) in
    sym (ap (λ t. t && rest) (sym one ∙ c.if-not-fits_row.false)) ∙ sym step ∙ c.rows.invariant

pub returns : goal.returns
returns c =
    let b = c.args.b.now in
    let test = fits_at b c.args.zone.now c.args.values.now (to_z w64 (of_z w64 c.args.low))
    (to_z w64 (of_z w64 c.args.high)) in
    let k : c.rows.row ≡ row_count b =
    omega (arith, c.rows-test.false, c.rows.auto.row-end, c.row_count-row-end.ensures) in
    rw (to_z-of_z w64 _ c.ranges.low, to_z-of_z w64 _ c.ranges.high) at
    (sym (sym c.rows.invariant
    ∙ tested_none b test (c.rows.row * extent b 0) (rows_all b c.rows.row k)))
