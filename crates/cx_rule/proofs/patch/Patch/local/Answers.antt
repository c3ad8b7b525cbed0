use Rattle.cx_rule.proofs.BufferLaws.{buffered}
use Rattle.cx_rule.proofs.patch.Patch.local.Goals as goal

pub returns-clause-patch : goal.returns-clause-patch
returns-clause-patch c =
    rw (← c.self.view_is) (buffered _ _ _ _ c.local.ensures.patch c.self.invariant)
