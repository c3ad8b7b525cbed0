use Rattle.std.proofs.Common.{◌≤◌, ◌+◌, length}
use Rattle.cx_scope.specs.Closures.{sight_of}
use Rattle.cx_scope.proofs.SuffixLaws.{Left}
use Rattle.cx_scope.proofs.sought.find_variable.Given as goal

abbrev pub invariant-levels : goal.invariant-levels
invariant-levels l = record {
  left : Left (sight_of l.tables) l.thorn l.tiers l.tables.variables l.name l.level l.base;
  within : l.level + length l.base ≤ length l.name.name;
}

abbrev pub decreases-levels : goal.decreases-levels
decreases-levels l = length l.base
