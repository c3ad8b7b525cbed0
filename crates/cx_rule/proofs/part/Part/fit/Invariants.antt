use Rattle.std.proofs.Common.{◌≡◌, drop}
use Rattle.cx_rule.specs.Patches.{setup_in}
use Rattle.cx_rule.specs.Runs.{levels_fit}
use Rattle.cx_rule.proofs.part.Part.fit.Given as goal

abbrev pub invariant-writes : goal.invariant-writes
invariant-writes l =
    (l.staged ≡ l.initial.staged)
    × (levels_fit (setup_in l.self) l.self.local l.zone (drop l.k l.writes)
    (drop l.k l.initial.staged)
    ≡ levels_fit (setup_in l.self) l.self.local l.zone l.writes l.initial.staged)
