use Rattle.std.proofs.Common.{◌≡◌, ◌++◌, take}
use Rattle.std.specs.List.{flat_map, enumerate_from}
use Rattle.cx_job.specs.Outputs.{places_in}
use Rattle.cx_job.proofs.groups.push_places.Given as goal

abbrev pub invariant-groups : goal.invariant-groups
invariant-groups l = l.places
    ≡ l.fn.places ++ flat_map (places_in (l.number, l.thorn))
    (enumerate_from 0 (take l.place l.groups))
