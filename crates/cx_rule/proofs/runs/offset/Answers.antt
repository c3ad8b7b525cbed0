use Rattle.std.proofs.Common.{rules, SFits, w32}
use Rattle.std.proofs.lemmas.Int.{to_z-of_z}
use Rattle.cx_rule.proofs.RunLaws.{offset_is}
use Rattle.cx_rule.proofs.runs.offset.Goals as goal

pub returns : goal.returns
returns c =
    let x : SFits w32 c.args.b.now.low.x = search rules in
    let y : SFits w32 c.args.b.now.high.x = search rules in
    let m : SFits w32 c.max.result = search rules in
    let n : SFits w32 c.min.result = search rules in
    let a = rw (to_z-of_z w32 _ c.ranges.c, to_z-of_z w32 _ x) at c.max.ensures.value in
    let b = rw (to_z-of_z w32 _ m, to_z-of_z w32 _ y, a) at c.min.ensures.value in
    offset_is c.args.b.now c.args.c c.gap.result c.requires.x
    (rw (to_z-of_z w32 _ x, to_z-of_z w32 _ n, b) at c.gap.ensures)
