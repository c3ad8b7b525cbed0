use Rattle.std.proofs.Common.{refl, w64}
use Rattle.std.proofs.lemmas.Int.{to_z-of_z}
use Rattle.cx_rule.proofs.NumberLaws.{stored_grid, grid_count}
use Rattle.cx_rule.proofs.part.Part.set.Goals as goal

pub set_at-requires-clause-level : goal.set_at-requires-clause-level
set_at-requires-clause-level c = stored_grid _ c.args.v c.args.level c.requires.level

pub set_at-requires-clause-at : goal.set_at-requires-clause-at
set_at-requires-clause-at c =
    let b = rw c.local.ensures.value at c.index_of-at.ensures.below in
    rw (grid_count _ c.args.v c.args.level c.requires.level) b

pub returns : goal.returns
returns c = rw (
  c.set_at.ensures,
  c.index_of-at.ensures.value,
  c.local.ensures.value,
  to_z-of_z w64 c.args.value c.ranges.value,
) refl
