use Rattle.std.proofs.Common.{Some}
use Rattle.cx_scope.specs.Names.{named_copy}
use Rattle.cx_scope.proofs.NameLaws.{one_numbered}
use Rattle.cx_scope.proofs.names.push_numbered.Goals as goal

pub copies-preserved : goal.copies-preserved
copies-preserved c =
    one_numbered (λ k. named_copy c.args.group.now c.args.name.now (Some k))
    c.args.named.now c.copies.k c.copies.invariant c.in_ok-named_variable.ensures
    c.in_ok-push.ensures.ok
