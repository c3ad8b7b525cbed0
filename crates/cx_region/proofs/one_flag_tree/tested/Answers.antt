use Rattle.std.proofs.Common.{◌∷◌, [], subst, List}
use Rattle.cx_plan.specs.Paths.{Meets, Just}
use Rattle.cx_region.specs.declared.witness.Witness.{Witness}
use Rattle.cx_region.specs.Witnesses.{act_of, Goes}
use Rattle.cx_region.proofs.one_flag_tree.tested.Goals as goal

pub returns-clause-goes : goal.returns-clause-goes
returns-clause-goes c = λ x is.
    subst (λ (ways : List Witness).
    Goes c.args.job.now x (Just (Meets (act_of c.args.test) ∷ [])) ways c.take_all.result)
    c.in_ok-copied.ensures (c.take_all.ensures.goes x is)
