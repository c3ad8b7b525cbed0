use Rattle.std.proofs.Common.{◌∙◌, arith}
use Rattle.cx_rule.proofs.NumberLaws.{stored_scalar, scalar_count}
use Rattle.cx_rule.proofs.part.Part.scalar.Goals as goal

pub level-requires : goal.level-requires
level-requires c = stored_scalar _ c.args.v c.requires

pub bounds-level-0 : goal.bounds-level-0
bounds-level-0 c =
    let n = c.level.ensures.count ∙ scalar_count _ c.args.v c.requires in
    omega (arith, n)
