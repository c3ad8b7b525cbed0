use Rattle.core_tests.specs.Parts.{AreParts}
use Rattle.core_tests.proofs.grids.parts.Given as goal

abbrev pub invariant-parts : goal.invariant-parts
invariant-parts l = AreParts l.cut l.k l.patches.items
