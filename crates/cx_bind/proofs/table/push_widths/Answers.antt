use Rattle.std.proofs.Common.{List, take, drop}
use Rattle.cx_bind.specs.declared.thorns.Param.{Param}
use Rattle.cx_bind.specs.BuiltIn.{width_parameters}
use Rattle.cx_bind.proofs.TableLaws.{joined}
use Rattle.cx_bind.proofs.table.push_widths.Goals as goal

pub returns : goal.returns
returns c =
    let rows : List Param = width_parameters c.args.n in
    joined c.args.table.now c.push_text.new.table c.push_text-3.new.table (take 1 rows)
    (drop 1 rows) c.in_ok-push_text.ensures
    (joined c.push_text.new.table c.push_text-2.new.table c.push_text-3.new.table
    (take 1 (drop 1 rows)) (drop 2 rows) c.in_ok-push_text-2.ensures
    (c.in_ok-push_text-3.ensures))
