use Rattle.std.proofs.Common.{rules}
use Rattle.cx_thorn_ca.specs.Rows.{next_at}
use Rattle.cx_thorn_ca.proofs.PairLaws.{pair_cells}
use Rattle.cx_thorn_ca.proofs.pairs.put_blocks.Goals as goal

pub fourteens-preserved : goal.fourteens-preserved
fourteens-preserved c = (
  search rules,
  search rules,
  λ rule bits. c.put_pairs.ensures.cells (next_at rule c.args.cells.now)
      (c.fourteens.invariant.2 rule bits)
      (λ k l. pair_cells rule c.args.table.now c.args.cells.now _ c.fourteens.i k bits
      c.living_bits-bits.ensures l),
)
