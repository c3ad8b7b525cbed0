use Rattle.cx_job.proofs.OutputLaws.{Outputs}
use Rattle.cx_job.proofs.outputs.outputs.Given as goal

abbrev pub invariant-names : goal.invariant-names
invariant-names l = Outputs l.vars l.groups l.places l.storage l.names l.name-index l.outputs
