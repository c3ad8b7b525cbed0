use Rattle.std.proofs.Common.{◌≡◌, drop}
use Rattle.std.specs.List.{list_any, enumerate_from}
use Rattle.cx_job.specs.Outputs.{is_missing}
use Rattle.cx_job.proofs.outputs.lacks_storage.Given as goal

abbrev pub invariant-places : goal.invariant-places
invariant-places l = list_any (is_missing l.storage l.named)
    (enumerate_from l.number (drop l.number l.places))
    ≡ list_any (is_missing l.storage l.named) (enumerate_from 0 l.places)
