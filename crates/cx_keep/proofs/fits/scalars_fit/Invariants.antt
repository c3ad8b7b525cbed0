use Rattle.std.proofs.Common.{◌≡◌, ◌≤◌, drop, length}
use Rattle.cx_keep.specs.Fits.{each_fits, variables_by, holds_value, scalars_fit}
use Rattle.cx_keep.proofs.fits.scalars_fit.Given as goal
use Rattle.cx_plan.specs.Whole.{scalar_count}

abbrev pub invariant-each : goal.invariant-each
invariant-each l = record {
  within : l.at ≤ length l.values;
  so_far : each_fits holds_value (variables_by scalar_count (drop l.v-index l.vars))
      (drop l.at l.values) ≡ scalars_fit l.vars l.values;
}
