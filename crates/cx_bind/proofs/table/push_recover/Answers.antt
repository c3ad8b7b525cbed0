use Rattle.std.proofs.Common.{List, take, drop}
use Rattle.cx_bind.specs.declared.thorns.Param.{Param}
use Rattle.cx_bind.specs.BuiltIn.{recover_parameters}
use Rattle.cx_bind.proofs.TableLaws.{joined}
use Rattle.cx_bind.proofs.table.push_recover.Goals as goal

pub returns : goal.returns
returns c =
    let rows : List Param = recover_parameters c.args.n in
    joined c.args.table.now c.push_text.new.table c.push_flag.new.table (take 1 rows) (drop 1 rows)
    c.in_ok-push_text.ensures
    (joined c.push_text.new.table c.push_mode.new.table c.push_flag.new.table
    (take 1 (drop 1 rows)) (drop 2 rows) c.in_ok-push_mode.ensures (c.in_ok-push_flag.ensures))
