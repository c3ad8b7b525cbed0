use Rattle.std.proofs.Common.{◌≡◌, ◌++◌, take, map}
use Rattle.std.specs.List.{enumerate_from}
use Rattle.cx_job.specs.Outputs.{full_group}
use Rattle.cx_job.proofs.groups.push_groups.Given as goal

abbrev pub invariant-groups : goal.invariant-groups
invariant-groups l = l.full
    ≡ l.fn.full ++ map (full_group (l.number, l.thorn)) (enumerate_from 0 (take l.place l.groups))
