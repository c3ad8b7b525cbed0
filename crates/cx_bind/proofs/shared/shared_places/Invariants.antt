use Rattle.std.proofs.Common.{drop, length, ◌≤◌}
use Rattle.cx_bind.specs.NamePlaces.{LeadToFirst}
use Rattle.cx_bind.specs.Parameters.{is_shared_as}
use Rattle.cx_bind.proofs.shared.shared_places.Given as goal

abbrev pub invariant-places : goal.invariant-places
invariant-places l = record {
  within : l.place ≤ length l.knowns;
  lead : LeadToFirst is_shared_as l.knowns l.shared (drop l.place l.knowns);
}

abbrev pub decreases-places : goal.decreases-places
decreases-places l = l.place
