use Rattle.std.proofs.Common.{rules, ◌<◌, ◌+◌, ◌∙◌, arith, length, SFits, w64, to_z-of_z}
use Rattle.cx_thorn_ca.specs.Rows.{cell_at}
use Rattle.cx_thorn_ca.specs.Lanes.{lane}
use Rattle.cx_thorn_ca.proofs.RowLaws.{one_more}
use Rattle.cx_thorn_ca.proofs.lanes.put_block.Goals as goal

pub cells-preserved : goal.cells-preserved
cells-preserved c =
    let number : SFits w64 (cell_at c.args.table.now (lane c.args.indices.now c.cells.k)) =
    search rules in
    let room : c.args.i + c.cells.k < length c.cells.next_cells = search rules in
    let few : c.cells.k < 14 = c.cells-test.true in (
      search rules,
      λ f before is j l.
          one_more f c.cells.next_cells (c.args.i + c.cells.k) _ room
          (to_z-of_z number ∙ is c.cells.k few)
          (c.cells.invariant.1 f before is) j (omega (arith, l)),
    )

pub returns-clause-cells : goal.returns-clause-cells
returns-clause-cells c =
    λ f before is j l. c.cells.invariant.1 f before is j (omega (arith, l, c.cells-test.false))
