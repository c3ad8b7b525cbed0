use Rattle.std.proofs.Common.{◌≤◌, length, drop}
use Rattle.cx_bind.specs.NamePlaces.{AreNamed}
use Rattle.cx_bind.proofs.places.NamedPlaces.new.Given as goal

abbrev pub invariant-places : goal.invariant-places
invariant-places l = record {
  within : l.at ≤ length l.places;
  are_named : AreNamed l.places l.named.firsts l.named.several (drop l.at l.places);
}

abbrev pub decreases-places : goal.decreases-places
decreases-places l = l.at
