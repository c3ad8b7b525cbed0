use Rattle.std.proofs.Common.{rules, arith, pos, ◌+ℤ◌, ◌≡◌, SFits, w32, to_z-of_z}
use Rattle.std.proofs.lemmas.Int.{ints}
use Rattle.cx_rule.proofs.AfterLaws.{after_x, after_y, after_z}
use Rattle.cx_rule.proofs.run.after.Goals as goal

pub returns-then-x-b : goal.returns-then-x-b
returns-then-x-b c =
    let px : SFits w32 c.args.p.x = search rules in
    let py : SFits w32 c.args.p.y = search rules in
    let pz : SFits w32 c.args.p.z = search rules in
    let hx : SFits w32 c.args.b.now.high.x = search rules in
    let rx : SFits w32 c.moved-x.result = search rules in
    let x = rw (to_z-of_z px) at c.moved-x.ensures in
    let l = rw (to_z-of_z rx, to_z-of_z hx) at c.if-x-b.true in
    rw (to_z-of_z rx, to_z-of_z py, to_z-of_z pz, x)
    (after_x c.args.b.now c.args.p c.args.count c.requires.inside c.requires.some c.requires.row
    (omega (arith, ints, l, x)))

pub returns-then-y-b : goal.returns-then-y-b
returns-then-y-b c =
    let px : SFits w32 c.args.p.x = search rules in
    let py : SFits w32 c.args.p.y = search rules in
    let pz : SFits w32 c.args.p.z = search rules in
    let lx : SFits w32 c.args.b.now.low.x = search rules in
    let hx : SFits w32 c.args.b.now.high.x = search rules in
    let hy : SFits w32 c.args.b.now.high.y = search rules in
    let rx : SFits w32 c.moved-x.result = search rules in
    let ry : SFits w32 c.next_up-y.result = search rules in
    let x = rw (to_z-of_z px) at c.moved-x.ensures in
    let y = rw (to_z-of_z py) at c.next_up-y.ensures in
    let over = rw (to_z-of_z rx, to_z-of_z hx) at c.if-x-b.false in
    let l = rw (to_z-of_z ry, to_z-of_z hy) at c.if-y-b.true in
    let ends : c.args.b.now.high.x ≡ (c.args.p.x +ℤ pos c.args.count) =
    omega (arith, ints, over, x, c.requires.row) in
    rw (to_z-of_z lx, to_z-of_z ry, to_z-of_z pz, y)
    (after_y c.args.b.now c.args.p c.args.count c.requires.inside c.requires.some c.requires.row
    ends (omega (arith, ints, l, y)))

pub returns : goal.returns
returns c =
    let px : SFits w32 c.args.p.x = search rules in
    let py : SFits w32 c.args.p.y = search rules in
    let pz : SFits w32 c.args.p.z = search rules in
    let lx : SFits w32 c.args.b.now.low.x = search rules in
    let ly : SFits w32 c.args.b.now.low.y = search rules in
    let hx : SFits w32 c.args.b.now.high.x = search rules in
    let hy : SFits w32 c.args.b.now.high.y = search rules in
    let rx : SFits w32 c.moved-x.result = search rules in
    let ry : SFits w32 c.next_up-y.result = search rules in
    let rz : SFits w32 c.next_up.result = search rules in
    let x = rw (to_z-of_z px) at c.moved-x.ensures in
    let y = rw (to_z-of_z py) at c.next_up-y.ensures in
    let z = rw (to_z-of_z pz) at c.next_up.ensures in
    let over = rw (to_z-of_z rx, to_z-of_z hx) at c.if-x-b.false in
    let above = rw (to_z-of_z ry, to_z-of_z hy) at c.if-y-b.false in
    let ends : c.args.b.now.high.x ≡ (c.args.p.x +ℤ pos c.args.count) =
    omega (arith, ints, over, x, c.requires.row) in
    let top : c.args.b.now.high.y ≡ (c.args.p.y +ℤ pos 1) =
    omega (arith, ints, above, y, c.requires.inside.y.below) in
    rw (to_z-of_z lx, to_z-of_z ly, to_z-of_z rz, z)
    (after_z c.args.b.now c.args.p c.args.count c.requires.inside c.requires.some c.requires.row
    ends top)
