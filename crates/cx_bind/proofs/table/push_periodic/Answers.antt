use Rattle.std.proofs.Common.{List, take, drop}
use Rattle.cx_bind.specs.declared.thorns.Param.{Param}
use Rattle.cx_bind.specs.BuiltIn.{periodic_parameters}
use Rattle.cx_bind.proofs.TableLaws.{joined}
use Rattle.cx_bind.proofs.table.push_periodic.Goals as goal

pub returns : goal.returns
returns c =
    let rows : List Param = periodic_parameters c.args.n in
    joined c.args.table.now c.push_flag.new.table c.push_flag-4.new.table (take 1 rows)
    (drop 1 rows) c.in_ok-push_flag.ensures
    (joined c.push_flag.new.table c.push_flag-2.new.table c.push_flag-4.new.table
    (take 1 (drop 1 rows)) (drop 2 rows) c.in_ok-push_flag-2.ensures
    (joined c.push_flag-2.new.table c.push_flag-3.new.table c.push_flag-4.new.table
    (take 1 (drop 2 rows)) (drop 3 rows) c.in_ok-push_flag-3.ensures
    (c.in_ok-push_flag-4.ensures)))
