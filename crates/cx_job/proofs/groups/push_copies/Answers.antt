use Rattle.cx_scope.proofs.NameLaws.{numbered_are}
use Rattle.cx_job.proofs.groups.push_copies.Goals as goal

pub returns-in-Some : goal.returns-in-Some
returns-in-Some c = rw (c.in-Some.is, numbered_are (λ copy. c.args.at) c.in-Some.count)
    c.push_numbered.ensures
