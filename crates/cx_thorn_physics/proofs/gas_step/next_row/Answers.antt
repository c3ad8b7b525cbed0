use Rattle.std.proofs.Common.{rules, ◌+◌, ◌<◌, ◌∙◌, length, SFits, w64, to_z-of_z}
use Rattle.cx_thorn_physics.specs.Rows.{number_at, gas_at}
use Rattle.cx_thorn_physics.proofs.GasRows.{one_more}
use Rattle.cx_thorn_physics.proofs.gas_step.next_row.Goals as goal

pub cells-preserved : goal.cells-preserved
cells-preserved c =
    let v : SFits w64 c.cell_amid.result = search rules in
    let l : SFits w64 (number_at c.args.cells.now c.cells.i) = search rules in
    let b : SFits w64 (number_at c.args.below.now (c.cells.i + 1)) = search rules in
    let r : SFits w64 (number_at c.args.cells.now (c.cells.i + 2)) = search rules in
    let a : SFits w64 (number_at c.args.above.now (c.cells.i + 1)) = search rules in
    let e = rw (to_z-of_z l, to_z-of_z b, to_z-of_z r, to_z-of_z a) at c.cell_amid.ensures in
    let h : c.cells.i < length c.cells.next_cells = search rules in (
      search rules,
      one_more (gas_at c.args.below.now c.args.cells.now c.args.above.now)
          c.cells.next_cells c.cells.i _ h (to_z-of_z v ∙ e) c.cells.invariant.1,
    )
