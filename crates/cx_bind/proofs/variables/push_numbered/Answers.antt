use Rattle.std.proofs.Common.{Some}
use Rattle.cx_bind.specs.Variables.{info_of}
use Rattle.cx_bind.proofs.VariableLaws.{one_numbered}
use Rattle.cx_bind.proofs.variables.push_numbered.Goals as goal

pub copies-preserved : goal.copies-preserved
copies-preserved c =
    one_numbered (λ k. info_of c.args.thorn.now c.args.group.now c.args.name.now (Some k))
    c.args.infos.now c.copies.k c.copies.invariant c.in_ok-info_of.ensures
    c.in_ok-push.ensures.ok
