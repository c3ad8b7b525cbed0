use Rattle.std.proofs.Common.{refl, arith, length}
use Rattle.cx_rule.proofs.NumberLaws.{stored_grid, grid_count}
use Rattle.cx_rule.proofs.FaceLaws.{row_end}
use Rattle.cx_rule.proofs.part.Part.put_row.Goals as goal

pub put_at-requires-clause-level : goal.put_at-requires-clause-level
put_at-requires-clause-level c = stored_grid _ c.args.v c.args.level c.requires.level

pub put_at-requires-clause-at : goal.put_at-requires-clause-at
put_at-requires-clause-at c =
    let e = rw c.local.ensures.value at c.index_of-at.ensures.value in
    let n = row_end c.args.self.now.local c.args.low (length c.args.values.now) c.requires.low
    c.requires.high in
    rw (grid_count _ c.args.v c.args.level c.requires.level) (omega (arith, e, n))

pub returns : goal.returns
returns c = rw (c.put_at.ensures, c.index_of-at.ensures.value, c.local.ensures.value) refl
