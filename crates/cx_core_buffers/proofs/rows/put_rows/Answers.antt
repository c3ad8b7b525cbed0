use Rattle.std.proofs.Common.{◌∙◌, ◌<◌, ◌≤◌, ap, arith, length}
use Rattle.cx_grid.specs.Boxes.{point_count}
use Rattle.cx_core_buffers.specs.Rows.{row_starts}
use Rattle.cx_core_buffers.proofs.RowLaws.{rows_none, rows_length, rows_more, rows_all, owned_few, starts_small}
use Rattle.cx_core_buffers.proofs.rows.put_rows.Goals as goal

pub row_starts-starts-requires-clause-few : goal.row_starts-starts-requires-clause-few
row_starts-starts-requires-clause-few c =
    rw c.owned.ensures.value (owned_few c.args.patch.now c.owned.ensures.patch)

pub count-i-end-requires-clause-small : goal.count-i-end-requires-clause-small
count-i-end-requires-clause-small c =
    rw (c.row_starts-starts.ensures, c.owned.ensures.value)
    (starts_small c.args.patch.now c.owned.ensures.patch)

pub rows-init : goal.rows-init
rows-init c = rows_none c.args.patch.now c.owned.ensures.patch c.args.v c.args.number
    c.args.level.now.items c.requires.room

pub point_at-requires-clause-small : goal.point_at-requires-clause-small
point_at-requires-clause-small c =
    rw (c.row_starts-starts.ensures, c.owned.ensures.value)
    (starts_small c.args.patch.now c.owned.ensures.patch)

pub put_row-requires-clause-room : goal.put_row-requires-clause-room
put_row-requires-clause-room c =
    ap length c.rows.invariant
    ∙ rows_length c.args.patch.now c.owned.ensures.patch c.args.v c.args.number
    c.args.level.now.items c.rows.i

pub rows-preserved : goal.rows-preserved
rows-preserved c =
    let n = rw (c.row_starts-starts.ensures, c.owned.ensures.value) at c.count-i-end.ensures in
    let l : c.rows.i < point_count (row_starts c.args.patch.now.owned) =
    omega (arith, n, c.rows-test.true) in
    let e = rw (
      c.point_at.ensures.value,
      c.row_starts-starts.ensures,
      c.owned.ensures.value,
      c.rows.invariant,
    ) at c.put_row.ensures in
    e ∙ rows_more c.args.patch.now c.owned.ensures.patch c.args.v c.args.number
    c.args.level.now.items c.rows.i l

pub returns : goal.returns
returns c =
    let n = rw (c.row_starts-starts.ensures, c.owned.ensures.value) at c.count-i-end.ensures in
    let l : point_count (row_starts c.args.patch.now.owned) ≤ c.rows.i =
    omega (arith, n, c.rows-test.false) in
    c.rows.invariant ∙ rows_all c.args.patch.now c.owned.ensures.patch c.args.v c.args.number
    c.args.level.now.items c.rows.i l
