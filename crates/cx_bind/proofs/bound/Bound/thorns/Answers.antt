use Rattle.std.proofs.Common.{◌≤◌, subst, length}
use Rattle.cx_bind.proofs.FewLaws.{few_thorns}
use Rattle.cx_bind.proofs.bound.Bound.thorns.Goals as goal

pub returns-clause-few : goal.returns-clause-few
returns-clause-few c = subst (λ ts. length ts ≤ 64) c.self.view_is
    (few_thorns c.self.inside.thorns c.self.invariant.2)
