use Rattle.std.proofs.Common.{◌∙◌, ◌*◌, ◌&&◌, sym, ap, w64}
use Rattle.std.proofs.lemmas.Int.{to_z-of_z}
use Rattle.cx_grid.specs.Boxes.{extent}
use Rattle.cx_rule.specs.Runs.{are_within, numbers_on}
use Rattle.cx_rule.proofs.RowLaws.{row_fits}
use Rattle.cx_rule.proofs.commit.fits_row.Goals as goal

pub returns-then-are_within : goal.returns-then-are_within
returns-then-are_within c =
    let e = c.row_start-start.ensures.value in
    let r = c.runs_at-runs.result in
    let fits = row_fits c.args.b.now c.args.zone.now c.args.values.now c.args.low c.args.high
    c.args.row r c.requires.size (rw e at c.row_start-start.ensures.room)
    (rw e at c.runs_at-runs.ensures) in
    let first = rw (
      to_z-of_z w64 _ c.ranges.low,
      to_z-of_z w64 _ c.ranges.high,
      c.numbers_on-before.ensures,
      e,
    ) at c.are_within.ensures in
    let second = rw (
      to_z-of_z w64 _ c.ranges.low,
      to_z-of_z w64 _ c.ranges.high,
      c.numbers_on-behind.ensures,
      e,
    ) at c.are_within-then-are_within.ensures in
    second
    ∙ ap (λ t. t && are_within c.args.low c.args.high
    (numbers_on c.args.values.now (c.args.row * extent c.args.b.now 0) r.behind))
    (sym c.if-are_within.true ∙ first) ∙ fits

pub returns-else-are_within : goal.returns-else-are_within
returns-else-are_within c =
    let e = c.row_start-start.ensures.value in
    let r = c.runs_at-runs.result in
    let fits = row_fits c.args.b.now c.args.zone.now c.args.values.now c.args.low c.args.high
    c.args.row r c.requires.size (rw e at c.row_start-start.ensures.room)
    (rw e at c.runs_at-runs.ensures) in
    let first = rw (
      to_z-of_z w64 _ c.ranges.low,
      to_z-of_z w64 _ c.ranges.high,
      c.numbers_on-before.ensures,
      e,
    ) at c.are_within.ensures in
    c.if-are_within.false ∙ ap
    (λ t. t && are_within c.args.low c.args.high
    (numbers_on c.args.values.now (c.args.row * extent c.args.b.now 0) r.behind))
    (sym c.if-are_within.false ∙ first) ∙ fits
