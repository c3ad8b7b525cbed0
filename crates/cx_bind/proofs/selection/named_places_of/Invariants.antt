use Rattle.std.proofs.Common.{◌≡◌, drop, map}
use Rattle.cx_plan.specs.Lists.{all_ok}
use Rattle.cx_bind.specs.Selecting.{place_of}
use Rattle.cx_bind.proofs.SelectionLaws.{behind}
use Rattle.cx_bind.proofs.selection.named_places_of.Given as goal

abbrev pub invariant-names : goal.invariant-names
invariant-names l = behind l.found (all_ok (map (place_of l.places) (drop l.name-index l.names)))
    ≡ all_ok (map (place_of l.places) l.names)
