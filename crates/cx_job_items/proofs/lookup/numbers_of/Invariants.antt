use Rattle.cx_job_items.specs.Matching.{param_number}
use Rattle.cx_job_items.proofs.MatchLaws.{Had}
use Rattle.cx_job_items.proofs.lookup.numbers_of.Given as goal

abbrev pub invariant-names : goal.invariant-names
invariant-names l = Had (param_number l.values) l.names l.name-index l.numbers
