use Rattle.std.proofs.Common.{◌∙◌}
use Rattle.cx_rule.proofs.NumberLaws.{stored_grid, grid_count}
use Rattle.cx_rule.proofs.part.Part.get.Goals as goal

pub level-requires : goal.level-requires
level-requires c = stored_grid _ c.args.v c.args.level c.requires.level

pub bounds-level-at : goal.bounds-level-at
bounds-level-at c =
    let b = rw c.local.ensures.value at c.index_of-at.ensures.below in
    rw (c.level.ensures.count ∙ grid_count _ c.args.v c.args.level c.requires.level) b
