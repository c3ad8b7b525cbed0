use Rattle.std.proofs.Common.{◌≡◌, take}
use Rattle.cx_rule.specs.Seen.{volumes}
use Rattle.cx_rule.proofs.window.place_of.Given as goal

abbrev pub invariant-reads : goal.invariant-reads
invariant-reads l = l.start ≡ volumes l.dims (take l.reach-index l.reaches)
