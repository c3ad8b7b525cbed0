use Rattle.std.proofs.Common.{rules, SFits, to_z-of_z}
use Rattle.std.specs.Int.{w128}
use Rattle.cx_reduce.proofs.Bounds.{least_within, greatest_within}
use Rattle.cx_reduce.proofs.joining.combine.Goals as goal

pub returns-in-Least-clause-within : goal.returns-in-Least-clause-within
returns-in-Least-clause-within c =
    let r : SFits w128 c.min.result = search rules in
    rw (to_z-of_z r, c.min.ensures.value, to_z-of_z c.ranges.a, to_z-of_z c.ranges.b)
    (least_within c.args.m c.args.n c.args.a c.args.b c.requires.a c.requires.b)

pub returns-in-Greatest-clause-within : goal.returns-in-Greatest-clause-within
returns-in-Greatest-clause-within c =
    let r : SFits w128 c.max.result = search rules in
    rw (to_z-of_z r, c.max.ensures.value, to_z-of_z c.ranges.a, to_z-of_z c.ranges.b)
    (greatest_within c.args.m c.args.n c.args.a c.args.b c.requires.a c.requires.b)
