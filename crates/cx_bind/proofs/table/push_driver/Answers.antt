use Rattle.std.proofs.Common.{◌++◌}
use Rattle.cx_bind.specs.BuiltIn.{grid_parameters, ghost_parameters, periodic_parameters, part_parameters, width_parameters, turn_parameters}
use Rattle.cx_bind.proofs.TableLaws.{joined}
use Rattle.cx_bind.proofs.table.push_driver.Goals as goal

pub returns : goal.returns
returns c =
    joined c.args.table.now c.push_grid.new.table c.push_turns.new.table (grid_parameters c.args.n)
    (ghost_parameters c.args.n
    ++ (periodic_parameters c.args.n
    ++ (part_parameters c.args.n ++ (width_parameters c.args.n ++ (turn_parameters c.args.n)))))
    c.in_ok-push_grid.ensures
    (joined c.push_grid.new.table c.push_ghosts.new.table c.push_turns.new.table
    (ghost_parameters c.args.n)
    (periodic_parameters c.args.n
    ++ (part_parameters c.args.n ++ (width_parameters c.args.n ++ (turn_parameters c.args.n))))
    c.in_ok-push_ghosts.ensures
    (joined c.push_ghosts.new.table c.push_periodic.new.table c.push_turns.new.table
    (periodic_parameters c.args.n)
    (part_parameters c.args.n ++ (width_parameters c.args.n ++ (turn_parameters c.args.n)))
    c.in_ok-push_periodic.ensures
    (joined c.push_periodic.new.table c.push_parts.new.table c.push_turns.new.table
    (part_parameters c.args.n) (width_parameters c.args.n ++ (turn_parameters c.args.n))
    c.in_ok-push_parts.ensures
    (joined c.push_parts.new.table c.push_widths.new.table c.push_turns.new.table
    (width_parameters c.args.n) (turn_parameters c.args.n) c.in_ok-push_widths.ensures
    (c.in_ok-push_turns.ensures)))))
