use Rattle.std.proofs.Common.{◌≤◌, subst, length}
use Rattle.cx_bind.specs.Variables.{variable_infos}
use Rattle.cx_bind.proofs.FewLaws.{few_variables}
use Rattle.cx_bind.proofs.bound.Bound.variables.Goals as goal

pub returns-clause-few : goal.returns-clause-few
returns-clause-few c = subst (λ ts. length (variable_infos ts) ≤ 256) c.self.view_is
    (few_variables c.self.inside.thorns c.self.invariant.2)
