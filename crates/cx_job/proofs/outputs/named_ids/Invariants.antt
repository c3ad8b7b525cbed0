use Rattle.std.proofs.Common.{◌≡◌, take}
use Rattle.cx_job.specs.Outputs.{named_ids}
use Rattle.cx_job.proofs.outputs.named_ids.Given as goal

abbrev pub invariant-places : goal.invariant-places
invariant-places l = l.written ≡ named_ids (take l.number l.places) l.named
