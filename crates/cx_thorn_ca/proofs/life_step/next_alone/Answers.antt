use Rattle.std.proofs.Common.{rules, ◌+◌, ◌<◌, ◌∙◌, length, SFits, w64, to_z, of_z, to_z-of_z}
use Rattle.cx_thorn_ca.specs.Rows.{cell_at, next_alone}
use Rattle.cx_thorn_ca.proofs.RowLaws.{one_more}
use Rattle.cx_thorn_ca.proofs.life_step.next_alone.Goals as goal

pub cells-preserved : goal.cells-preserved
cells-preserved c =
    let v : SFits w64 c.bit.result = search rules in
    let m : SFits w64 (cell_at c.args.cells.now (c.cells.i + 1)) = search rules in
    let n : SFits w64 c.counts.result = search rules in
    let k = rw (to_z-of_z m) at c.counts.ensures in
    let e = rw (to_z-of_z n, k, c.beside.ensures.value) at c.bit.ensures in
    let h : c.cells.i < length c.cells.next_cells = search rules in (
      search rules,
      one_more
          (next_alone (to_z w64 (of_z w64 c.args.survive)) (to_z w64 (of_z w64 c.args.born))
          c.args.cells.now) c.cells.next_cells c.cells.i _ h (to_z-of_z v ∙ e) c.cells.invariant.1,
    )
