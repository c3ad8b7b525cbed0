use Rattle.std.proofs.Common.{rules, w32, SFits}
use Rattle.std.proofs.lemmas.Int.{to_z-of_z}
use Rattle.cx_grid.proofs.shapes.wrap.Goals as goal

pub returns-clause-inside : goal.returns-clause-inside
returns-clause-inside c =
    let px : SFits w32 c.args.p.x = search rules in
    let py : SFits w32 c.args.p.y = search rules in
    let pz : SFits w32 c.args.p.z = search rules in
    let nx : SFits w32 c.args.shape.now.n.x = search rules in
    let ny : SFits w32 c.args.shape.now.n.y = search rules in
    let nz : SFits w32 c.args.shape.now.n.z = search rules in
    let rx : SFits w32 c.wrapped.result = search rules in
    let ry : SFits w32 c.wrapped-2.result = search rules in
    let rz : SFits w32 c.wrapped-3.result = search rules in
    let x = simp to_z-of_z at c.wrapped.ensures.on in
    let y = simp to_z-of_z at c.wrapped-2.ensures.on in
    let z = simp to_z-of_z at c.wrapped-3.ensures.on in
    simp to_z-of_z (λ near. record { x = x near.x; y = y near.y; z = z near.z })
