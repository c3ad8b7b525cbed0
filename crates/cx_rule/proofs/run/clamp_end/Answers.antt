use Rattle.std.proofs.Common.{rules, SFits, w32, to_z-of_z}
use Rattle.cx_rule.proofs.run.clamp_end.Goals as goal

pub returns-else-shape-offset0-clause-along : goal.returns-else-shape-offset0-clause-along
returns-else-shape-offset0-clause-along c = λ i l.
    let nx : SFits w32 c.args.shape.now.n.x = search rules in
    let gx : SFits w32 c.args.shape.now.ghost_.x = search rules in
    let lx : SFits w32 c.args.low.x = search rules in
    let rx : SFits w32 c.inner_end.result = search rules in
    let along = rw (to_z-of_z nx, to_z-of_z gx, to_z-of_z lx) at c.inner_end.ensures.along in
    rw c.if-shape-offset0.false (along i (rw (to_z-of_z rx) at l))
