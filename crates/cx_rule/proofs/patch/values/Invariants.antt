use Rattle.std.proofs.Common.{◌≡◌, map, take}
use Rattle.cx_rule.specs.Seen.{volumes}
use Rattle.cx_rule.specs.Sweeps.{reach_of}
use Rattle.cx_rule.specs.Patches.{capped}
use Rattle.cx_rule.proofs.patch.values.Given as goal

abbrev pub invariant-reads : goal.invariant-reads
invariant-reads l = l.values ≡ capped (volumes l.dims (map reach_of (take l.read-index l.reads)))
