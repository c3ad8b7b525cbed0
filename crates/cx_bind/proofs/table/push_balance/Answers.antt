use Rattle.std.proofs.Common.{List, take, drop}
use Rattle.cx_bind.specs.declared.thorns.Param.{Param}
use Rattle.cx_bind.specs.BuiltIn.{balance_parameters}
use Rattle.cx_bind.proofs.TableLaws.{joined}
use Rattle.cx_bind.proofs.table.push_balance.Goals as goal

pub returns : goal.returns
returns c =
    let rows : List Param = balance_parameters c.args.n in
    joined c.args.table.now c.push_flag.new.table c.push_int.new.table (take 1 rows) (drop 1 rows)
    c.in_ok-push_flag.ensures
    (joined c.push_flag.new.table c.push_text.new.table c.push_int.new.table
    (take 1 (drop 1 rows)) (drop 2 rows) c.in_ok-push_text.ensures (c.in_ok-push_int.ensures))
