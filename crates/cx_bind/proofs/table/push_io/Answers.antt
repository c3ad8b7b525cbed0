use Rattle.std.proofs.Common.{◌++◌}
use Rattle.cx_bind.specs.BuiltIn.{output_parameters, checkpoint_parameters, recover_parameters, steer_parameters}
use Rattle.cx_bind.proofs.TableLaws.{joined}
use Rattle.cx_bind.proofs.table.push_io.Goals as goal

pub returns : goal.returns
returns c =
    let n = c.args.n in
    joined c.args.table.now c.push_output.new.table c.push_steer.new.table (output_parameters n)
    (checkpoint_parameters n ++ (recover_parameters n ++ steer_parameters n))
    c.in_ok-push_output.ensures
    (joined c.push_output.new.table c.push_checkpoint.new.table c.push_steer.new.table
    (checkpoint_parameters n) (recover_parameters n ++ steer_parameters n)
    c.in_ok-push_checkpoint.ensures
    (joined c.push_checkpoint.new.table c.push_recover.new.table c.push_steer.new.table
    (recover_parameters n) (steer_parameters n)
    c.in_ok-push_recover.ensures c.in_ok-push_steer.ensures))
