use Rattle.std.proofs.Common.{rules, ◌<◌, ◌∙◌, ap, length, SFits, w64, to_z-of_z}
use Rattle.cx_thorn_ca.specs.Rows.{cell_at}
use Rattle.cx_thorn_ca.specs.Rows.{counted_at}
use Rattle.cx_thorn_ca.proofs.RowLaws.{one_more}
use Rattle.cx_thorn_ca.proofs.sheet_row.put_rest.Goals as goal

pub cells-preserved : goal.cells-preserved
cells-preserved c =
    let number : SFits w64 (cell_at c.args.table.now c.count.result) = search rules in
    let room : c.cells.i < length c.cells.next_cells = search rules in (
      search rules,
      one_more (counted_at c.args.table.now c.args.below.now c.args.cells.now c.args.above.now)
          c.cells.next_cells c.cells.i _ room
          (to_z-of_z number ∙ ap (cell_at c.args.table.now) c.count.ensures.value)
          c.cells.invariant.1,
    )
