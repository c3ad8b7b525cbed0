use Rattle.std.proofs.Common.{rules, w32, SFits, arith, ◌<◌}
use Rattle.std.proofs.lemmas.Int.{to_z-of_z}
use Rattle.cx_grid.proofs.Reaching.{reach_few}
use Rattle.cx_grid.proofs.shapes.reach_box.Goals as goal

pub returns-clause-few : goal.returns-clause-few
returns-clause-few c =
    let lx : SFits w32 c.lowest.result = search rules in
    let ly : SFits w32 c.lowest-2.result = search rules in
    let lz : SFits w32 c.lowest-3.result = search rules in
    let hx : SFits w32 c.above_highest.result = search rules in
    let hy : SFits w32 c.above_highest-2.result = search rules in
    let hz : SFits w32 c.above_highest-3.result = search rules in
    let small : c.args.reach < 256 = omega arith in
    simp to_z-of_z
    (rw (
      c.lowest.ensures.value,
      c.lowest-2.ensures.value,
      c.lowest-3.ensures.value,
      c.above_highest.ensures.value,
      c.above_highest-2.ensures.value,
      c.above_highest-3.ensures.value,
    ) (reach_few c.args.dims c.args.reach small))
