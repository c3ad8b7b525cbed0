use Rattle.std.proofs.Common.{◌≡◌, ◌++◌, take}
use Rattle.std.specs.List.{flat_map}
use Rattle.cx_job.specs.Outputs.{places_of_copies}
use Rattle.cx_job.proofs.groups.push_names.Given as goal

abbrev pub invariant-names : goal.invariant-names
invariant-names l = l.places
    ≡ l.fn.places ++ flat_map (λ name. places_of_copies l.at l.copies) (take l.index l.names)
