use Rattle.std.proofs.Common.{◌-ℤ◌, ◌+ℤ◌, pos, arith, rules, SFits, w32, to_z-of_z}
use Rattle.std.proofs.lemmas.Int.{ints, clamps}
use Rattle.cx_rule.proofs.RunEnds.{inner_along, one_along}
use Rattle.cx_rule.proofs.run.inner_end.Goals as goal

pub returns-then-c-ghosts-clause-along : goal.returns-then-c-ghosts-clause-along
returns-then-c-ghosts-clause-along c = λ i l.
    let cx : SFits w32 c.args.c = search rules in
    let next : SFits w32 (c.args.c +ℤ pos 1) = search rules in
    one_along c.args.n c.args.ghosts c.args.c i (rw (to_z-of_z cx, to_z-of_z next) at l)

pub returns-then-behind-c-clause-along : goal.returns-then-behind-c-clause-along
returns-then-behind-c-clause-along c = λ i l.
    let cx : SFits w32 c.args.c = search rules in
    let next : SFits w32 (c.args.c +ℤ pos 1) = search rules in
    one_along c.args.n c.args.ghosts c.args.c i (rw (to_z-of_z cx, to_z-of_z next) at l)

pub returns-clause-some : goal.returns-clause-some
returns-clause-some c =
    let nx : SFits w32 c.args.n = search rules in
    let gx : SFits w32 c.args.ghosts = search rules in
    let ex : SFits w32 c.args.end = search rules in
    let bx : SFits w32 (c.args.n -ℤ c.args.ghosts) = search rules in
    let rx : SFits w32 c.lesser.result = search rules in
    let least = rw (to_z-of_z nx, to_z-of_z gx, to_z-of_z bx, to_z-of_z ex) at c.lesser.ensures in
    let cx : SFits w32 c.args.c = search rules in
    let before = rw (to_z-of_z nx, to_z-of_z gx, to_z-of_z bx, to_z-of_z cx)
    at c.if-behind-c.false in
    rw (to_z-of_z rx) (omega (arith, ints, clamps, least, before, c.requires.some))

pub returns-clause-most : goal.returns-clause-most
returns-clause-most c =
    let nx : SFits w32 c.args.n = search rules in
    let gx : SFits w32 c.args.ghosts = search rules in
    let ex : SFits w32 c.args.end = search rules in
    let bx : SFits w32 (c.args.n -ℤ c.args.ghosts) = search rules in
    let rx : SFits w32 c.lesser.result = search rules in
    let least = rw (to_z-of_z nx, to_z-of_z gx, to_z-of_z bx, to_z-of_z ex) at c.lesser.ensures in
    rw (to_z-of_z rx) (omega (arith, ints, clamps, least))

pub returns-clause-along : goal.returns-clause-along
returns-clause-along c = λ i l.
    let nx : SFits w32 c.args.n = search rules in
    let gx : SFits w32 c.args.ghosts = search rules in
    let ex : SFits w32 c.args.end = search rules in
    let bx : SFits w32 (c.args.n -ℤ c.args.ghosts) = search rules in
    let rx : SFits w32 c.lesser.result = search rules in
    let least = rw (to_z-of_z nx, to_z-of_z gx, to_z-of_z bx, to_z-of_z ex) at c.lesser.ensures in
    let cx : SFits w32 c.args.c = search rules in
    let from = rw (to_z-of_z gx, to_z-of_z cx) at c.if-c-ghosts.false in
    inner_along c.args.n c.args.ghosts c.args.c c.lesser.result i (omega (arith, ints, from))
    (omega (arith, ints, clamps, least)) (rw (to_z-of_z rx) at l)
