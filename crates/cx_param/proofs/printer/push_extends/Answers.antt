use Rattle.cx_param.proofs.printer.push_extends.Goals as goal

pub returns : goal.returns
returns c = rw (← c.as_slice.ensures) c.push_shared.ensures
