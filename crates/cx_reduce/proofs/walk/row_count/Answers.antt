use Rattle.cx_rule.proofs.RunLaws.{rows_by}
use Rattle.cx_reduce.proofs.walk.row_count.Goals as goal

pub returns : goal.returns
returns c = rw (c.count.ensures, c.width.ensures) (rows_by _ _ _ c.requires.wide)
