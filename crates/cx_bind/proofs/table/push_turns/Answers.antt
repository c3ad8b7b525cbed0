use Rattle.std.proofs.Common.{List, take, drop}
use Rattle.cx_bind.specs.declared.thorns.Param.{Param}
use Rattle.cx_bind.specs.BuiltIn.{turn_parameters}
use Rattle.cx_bind.proofs.TableLaws.{joined}
use Rattle.cx_bind.proofs.table.push_turns.Goals as goal

pub returns : goal.returns
returns c =
    let rows : List Param = turn_parameters c.args.n in
    joined c.args.table.now c.push_int.new.table c.push_int-2.new.table (take 1 rows) (drop 1 rows)
    c.in_ok-push_int.ensures (c.in_ok-push_int-2.ensures)
