use Rattle.cx_scope.specs.Names.{named_copy}
use Rattle.cx_scope.proofs.NameLaws.{numbered_are}
use Rattle.cx_scope.proofs.names.push_copies.Goals as goal

pub returns-in-Some : goal.returns-in-Some
returns-in-Some c = rw (
  c.in-Some.is,
  numbered_are (named_copy c.args.group.now c.args.name.now) c.in-Some.count,
)
    c.push_numbered.ensures
