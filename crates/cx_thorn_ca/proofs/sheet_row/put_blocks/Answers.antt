use Rattle.std.proofs.Common.{rules, ap}
use Rattle.cx_thorn_ca.specs.Rows.{cell_at}
use Rattle.cx_thorn_ca.specs.Rows.{counted_at}
use Rattle.cx_thorn_ca.proofs.LaneLaws.{lane_few}
use Rattle.cx_thorn_ca.proofs.sheet_row.put_blocks.Goals as goal

pub put_block-requires-clause-few : goal.put_block-requires-clause-few
put_block-requires-clause-few c =
    λ k l. lane_few _ _ _ _ _ k _ (c.count_lanes.ensures.each k l) c.requires.table

pub fourteens-preserved : goal.fourteens-preserved
fourteens-preserved c = (
  search rules,
  search rules,
  c.put_block.ensures.cells
      (counted_at c.args.table.now c.args.below.now c.args.cells.now c.args.above.now)
      c.fourteens.invariant.2
      (λ k l. ap (cell_at c.args.table.now) (c.count_lanes.ensures.each k l)),
)
