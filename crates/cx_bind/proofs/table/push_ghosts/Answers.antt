use Rattle.std.proofs.Common.{List, take, drop}
use Rattle.cx_bind.specs.declared.thorns.Param.{Param}
use Rattle.cx_bind.specs.BuiltIn.{ghost_parameters}
use Rattle.cx_bind.proofs.TableLaws.{joined}
use Rattle.cx_bind.proofs.table.push_ghosts.Goals as goal

pub returns : goal.returns
returns c =
    let rows : List Param = ghost_parameters c.args.n in
    joined c.args.table.now c.push_unset.new.table c.push_int-3.new.table (take 1 rows)
    (drop 1 rows) c.in_ok-push_unset.ensures
    (joined c.push_unset.new.table c.push_int.new.table c.push_int-3.new.table
    (take 1 (drop 1 rows)) (drop 2 rows) c.in_ok-push_int.ensures
    (joined c.push_int.new.table c.push_int-2.new.table c.push_int-3.new.table
    (take 1 (drop 2 rows)) (drop 3 rows) c.in_ok-push_int-2.ensures
    (c.in_ok-push_int-3.ensures)))
