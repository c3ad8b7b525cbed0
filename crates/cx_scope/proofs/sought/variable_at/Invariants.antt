use Rattle.std.proofs.Common.{◌≡◌, drop}
use Rattle.cx_scope.specs.Closures.{sight_of}
use Rattle.cx_scope.specs.Naming.{variable_at}
use Rattle.cx_scope.proofs.sought.variable_at.Given as goal

abbrev pub invariant-tiers : goal.invariant-tiers
invariant-tiers l =
    variable_at (sight_of l.tables) l.thorn (drop l.tier-index l.tiers) l.tables.variables
    (record l.name { name = l.base }) 0
    ≡ variable_at (sight_of l.tables) l.thorn l.tiers l.tables.variables
    (record l.name { name = l.base }) 0
