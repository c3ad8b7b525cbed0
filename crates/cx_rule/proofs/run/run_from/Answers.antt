use Rattle.std.proofs.Common.{rules, SFits, w32, to_z-of_z}
use Rattle.cx_rule.proofs.RunEnds.{run_is}
use Rattle.cx_rule.proofs.run.run_from.Goals as goal

pub returns-clause-run : goal.returns-clause-run
returns-clause-run c =
    let lx : SFits w32 c.args.low.x = search rules in
    let ex : SFits w32 c.run_end-end.result = search rules in
    let to = rw (to_z-of_z lx, to_z-of_z ex) at c.steps_to.ensures.value in
    run_is c.args.shape.now c.args.region c.args.zone.now c.args.low c.window_point.result
    c.run_end-end.result c.steps_to.result
    c.run_end-end.ensures c.window_point.ensures to
