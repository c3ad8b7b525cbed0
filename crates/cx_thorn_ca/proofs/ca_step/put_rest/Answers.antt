use Rattle.std.proofs.Common.{rules, ◌+◌, ◌<◌, ◌∙◌, length, SFits, w64, to_z, of_z, to_z-of_z}
use Rattle.cx_thorn_ca.specs.Rows.{cell_at, next_at}
use Rattle.cx_thorn_ca.proofs.RowLaws.{one_more}
use Rattle.cx_thorn_ca.proofs.ca_step.put_rest.Goals as goal

pub cells-preserved : goal.cells-preserved
cells-preserved c =
    let v : SFits w64 c.next_cell.result = search rules in
    let l : SFits w64 (cell_at c.args.cells.now c.cells.i) = search rules in
    let m : SFits w64 (cell_at c.args.cells.now (c.cells.i + 1)) = search rules in
    let r : SFits w64 (cell_at c.args.cells.now (c.cells.i + 2)) = search rules in
    let e = rw (to_z-of_z l, to_z-of_z m, to_z-of_z r) at c.next_cell.ensures in
    let h : c.cells.i < length c.cells.next_cells = search rules in (
      search rules,
      one_more (next_at (to_z w64 (of_z w64 c.args.rule)) c.args.cells.now)
          c.cells.next_cells c.cells.i _ h (to_z-of_z v ∙ e) c.cells.invariant.1,
    )
