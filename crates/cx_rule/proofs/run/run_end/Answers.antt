use Rattle.std.proofs.Common.{rules, SFits, w32, to_z-of_z}
use Rattle.cx_rule.proofs.RunEnds.{boundary_end, all_end}
use Rattle.cx_rule.proofs.run.run_end.Goals as goal

pub returns-in-Boundary : goal.returns-in-Boundary
returns-in-Boundary c =
    let zx : SFits w32 c.zone_end-end.result = search rules in
    let ex : SFits w32 c.clamp_end.result = search rules in
    let most = rw (to_z-of_z zx) at c.clamp_end.ensures.most in
    rw (c.in-Boundary.is, to_z-of_z ex)
    (boundary_end c.args.shape.now c.args.zone.now c.args.low c.clamp_end.result
    c.zone_end-end.result c.zone_end-end.ensures.zone
    c.clamp_end.ensures.some most c.clamp_end.ensures.along)

pub returns-in-Interior : goal.returns-in-Interior
returns-in-Interior c =
    let zx : SFits w32 c.zone_end-end.result = search rules in
    rw (to_z-of_z zx)
    (all_end c.args.shape.now c.args.region c.args.zone.now c.args.low c.zone_end-end.result
    c.in-Interior.is c.zone_end-end.ensures.zone c.zone_end-end.ensures.some)
