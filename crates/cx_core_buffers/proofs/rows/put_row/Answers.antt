use Rattle.std.proofs.Common.{◌≡◌, ◌∙◌, ap, refl, arith, length}
use Rattle.std.proofs.lemmas.List.FromFn.{length-map-range_with_len}
use Rattle.cx_field.specs.Patches.{beside, number_at}
use Rattle.cx_core_buffers.proofs.RowLaws.{start_local, start_whole, row_local, row_room}
use Rattle.cx_core_buffers.proofs.rows.put_row.Goals as goal

pub index_of-at-requires-clause-point : goal.index_of-at-requires-clause-point
index_of-at-requires-clause-point c =
    rw (c.whole.ensures.value, c.shape.ensures.value)
    (start_whole c.args.patch.now c.shape.ensures.patch c.args.low c.requires.low)

pub row-row-requires-clause-low : goal.row-row-requires-clause-low
row-row-requires-clause-low c =
    start_local c.args.patch.now c.shape.ensures.patch c.args.low c.requires.low

pub row-row-requires-clause-high : goal.row-row-requires-clause-high
row-row-requires-clause-high c =
    rw (c.row_length.ensures, c.owned.ensures.value)
    (row_local c.args.patch.now c.shape.ensures.patch c.args.low c.requires.low)

pub put_from-requires : goal.put_from-requires
put_from-requires c =
    let p = c.args.patch.now in
    let e = rw (c.whole.ensures.value, c.shape.ensures.value) at c.index_of-at.ensures.value in
    let n = rw c.owned.ensures.value at c.row_length.ensures in
    let m : length c.row-row.result.now ≡ c.row_length.result =
    ap length c.row-row.ensures
    ∙ length-map-range_with_len (λ i. number_at p c.args.v c.args.number (beside c.args.low i))
    0 c.row_length.result in
    let r = row_room p c.shape.ensures.patch c.args.low c.requires.low in
    let l = c.requires.room in
    omega (arith, e, n, m, r, l)

pub returns : goal.returns
returns c =
    rw (
      c.put_from.ensures,
      c.index_of-at.ensures.value,
      c.whole.ensures.value,
      c.shape.ensures.value,
      c.row-row.ensures,
      c.row_length.ensures,
      c.owned.ensures.value,
    ) refl
