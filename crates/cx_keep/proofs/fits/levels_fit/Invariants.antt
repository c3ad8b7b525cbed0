use Rattle.std.proofs.Common.{◌≡◌, ◌≤◌, drop, length}
use Rattle.cx_keep.specs.Fits.{each_fits, variables_by, holds_level, levels_fit}
use Rattle.cx_keep.proofs.fits.levels_fit.Given as goal
use Rattle.cx_plan.specs.Whole.{level_count}

abbrev pub invariant-each : goal.invariant-each
invariant-each l = record {
  within : l.at ≤ length l.levels;
  so_far : each_fits (holds_level l.points) (variables_by level_count (drop l.v-index l.vars))
      (drop l.at l.levels) ≡ levels_fit l.points l.vars l.levels;
}
