-- what was passed fits
use Rattle.std.specs.Int.{w64}
use Rattle.std.specs.Int.RustNames.{FitsSigned}
use Rattle.cx_run_loop.proofs.Elements.{AllBefore}
use Rattle.cx_run_loop.proofs.numbers.values_fit.Given as goal

abbrev pub invariant-each : goal.invariant-each
invariant-each l = AllBefore (FitsSigned w64) l.values l.value-index
