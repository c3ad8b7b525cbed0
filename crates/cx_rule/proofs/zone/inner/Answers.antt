use Rattle.std.proofs.Common.{rules, refl, SFits, w32, to_z-of_z}
use Rattle.cx_rule.proofs.zone.inner.Goals as goal

pub returns : goal.returns
returns c =
    let gx : SFits w32 c.args.shape.now.ghost_.x = search rules in
    let nx : SFits w32 c.args.shape.now.n.x = search rules in
    let lx : SFits w32 c.args.b.now.low.x = search rules in
    let hx : SFits w32 c.args.b.now.high.x = search rules in
    let rx : SFits w32 c.inner_low.result = search rules in
    let sx : SFits w32 c.inner_high.result = search rules in
    let gy : SFits w32 c.args.shape.now.ghost_.y = search rules in
    let ny : SFits w32 c.args.shape.now.n.y = search rules in
    let ly : SFits w32 c.args.b.now.low.y = search rules in
    let hy : SFits w32 c.args.b.now.high.y = search rules in
    let ry : SFits w32 c.inner_low-2.result = search rules in
    let sy : SFits w32 c.inner_high-2.result = search rules in
    let gz : SFits w32 c.args.shape.now.ghost_.z = search rules in
    let nz : SFits w32 c.args.shape.now.n.z = search rules in
    let lz : SFits w32 c.args.b.now.low.z = search rules in
    let hz : SFits w32 c.args.b.now.high.z = search rules in
    let rz : SFits w32 c.inner_low-3.result = search rules in
    let sz : SFits w32 c.inner_high-3.result = search rules in
    rw (
      to_z-of_z rx,
      to_z-of_z sx,
      to_z-of_z ry,
      to_z-of_z sy,
      to_z-of_z rz,
      to_z-of_z sz,
      c.inner_low.ensures,
      c.inner_high.ensures,
      c.inner_low-2.ensures,
      c.inner_high-2.ensures,
      c.inner_low-3.ensures,
      c.inner_high-3.ensures,
      to_z-of_z gx,
      to_z-of_z nx,
      to_z-of_z lx,
      to_z-of_z hx,
      to_z-of_z gy,
      to_z-of_z ny,
      to_z-of_z ly,
      to_z-of_z hy,
      to_z-of_z gz,
      to_z-of_z nz,
      to_z-of_z lz,
      to_z-of_z hz,
    ) refl
