-- the ways before this one are copied
use Rattle.std.proofs.Common.{◌≡◌, take}
use Rattle.cx_region.proofs.witnesses.copies.Given as goal

abbrev pub invariant-ways : goal.invariant-ways
invariant-ways l = l.copies.items ≡ take l.way-index l.ways
