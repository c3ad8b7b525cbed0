use Rattle.std.proofs.Common.{◌≡◌, take, map}
use Rattle.std.specs.List.{enumerate_from}
use Rattle.cx_job_values.specs.Stored.{stored_info}
use Rattle.cx_job_values.proofs.stored.stored_infos.Given as goal

abbrev pub invariant-vars : goal.invariant-vars
invariant-vars l = l.infos ≡ map (stored_info l.storage) (enumerate_from 0 (take l.number l.vars))
