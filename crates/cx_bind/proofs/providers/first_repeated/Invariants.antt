use Rattle.std.proofs.Common.{◌≡◌, ◌≤◌, length, drop}
use Rattle.cx_bind.specs.NamePlaces.{LeadToFirst}
use Rattle.cx_bind.specs.Faults.{implements, told_by, two_providers}
use Rattle.cx_bind.proofs.providers.first_repeated.Given as goal

abbrev pub invariant-places : goal.invariant-places
invariant-places l = record {
  within : l.place ≤ length l.active;
  lead : LeadToFirst implements l.active l.places (drop l.place l.active);
  told : told_by l.pair ≡ two_providers (drop l.place l.active);
}

abbrev pub decreases-places : goal.decreases-places
decreases-places l = l.place
