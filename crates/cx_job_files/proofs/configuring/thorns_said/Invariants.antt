use Rattle.cx_job_files.specs.NamesAndLevels.{AreNamed, SayRead}
use Rattle.cx_job_files.proofs.ConfiguringLaws.{LeadsAt}
use Rattle.cx_job_files.proofs.configuring.thorns_said.Given as goal

abbrev pub invariant-places : goal.invariant-places
invariant-places g l =
    LeadsAt g.H.Shelf.tells l.places (g.H.Shelf.held l.fn.shelf) (g.H.Shelf.faults l.fn.shelf)
    l.said l.place-index (g.H.Shelf.held l.shelf) (g.H.Shelf.faults l.shelf)
    × (AreNamed l.places → SayRead l.said)
