use Rattle.std.proofs.Common.{drop, length, ◌≤◌}
use Rattle.cx_bind.specs.NamePlaces.{LeadToFirst}
use Rattle.cx_job.specs.Outputs.{has_full_name}
use Rattle.cx_job.proofs.groups.first_places.Given as goal

abbrev pub invariant-groups : goal.invariant-groups
invariant-groups l = record {
  within : l.place ≤ length l.groups;
  lead : LeadToFirst has_full_name l.groups l.firsts (drop l.place l.groups);
}

abbrev pub decreases-groups : goal.decreases-groups
decreases-groups l = l.place
