use Rattle.cx_bind.specs.Variables.{info_of}
use Rattle.cx_bind.proofs.VariableLaws.{numbered_are}
use Rattle.cx_bind.proofs.variables.push_copies.Goals as goal

pub returns-in-Some : goal.returns-in-Some
returns-in-Some c = rw (
  c.in-Some.is,
  numbered_are (info_of c.args.thorn.now c.args.group.now c.args.name.now) c.in-Some.count,
)
    c.push_numbered.ensures
