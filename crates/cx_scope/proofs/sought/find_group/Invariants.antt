use Rattle.std.proofs.Common.{◌≡◌, drop}
use Rattle.cx_scope.specs.Closures.{sight_of}
use Rattle.cx_scope.specs.Naming.{group_named}
use Rattle.cx_scope.proofs.sought.find_group.Given as goal

abbrev pub invariant-tiers : goal.invariant-tiers
invariant-tiers l = group_named (sight_of l.tables) l.thorn (drop l.tier-index l.tiers)
    l.tables.groups l.name ≡ group_named (sight_of l.tables) l.thorn l.tiers l.tables.groups l.name
