-- what was passed fits
use Rattle.std.specs.Int.{w64}
use Rattle.std.specs.Int.RustNames.{FitsSigned}
use Rattle.std.specs.Prelude.{All}
use Rattle.cx_run_loop.proofs.Elements.{AllBefore}
use Rattle.cx_run_loop.proofs.numbers.levels_fit.Given as goal

abbrev pub invariant-each : goal.invariant-each
invariant-each l = AllBefore (All (FitsSigned w64)) l.levels l.level-index
