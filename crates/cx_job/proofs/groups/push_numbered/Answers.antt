use Rattle.std.proofs.Common.{refl}
use Rattle.cx_scope.proofs.NameLaws.{one_numbered}
use Rattle.cx_job.proofs.groups.push_numbered.Goals as goal

pub copies-preserved : goal.copies-preserved
copies-preserved c = one_numbered (λ k. c.args.at)
    c.args.places.now c.copies.counter c.copies.invariant refl c.in_ok-push.ensures.ok
