use Rattle.std.proofs.Common.{◌∙◌, ap, sym, ◌++◌, append_assoc}
use Rattle.std.specs.Prelude.{codes}
use Rattle.cx_plan.specs.Names.{past}
use Rattle.cx_plan.proofs.NameLaws.{past_more}
use Rattle.cx_plan.proofs.names.push_past.Goals as goal

pub levels-preserved : goal.levels-preserved
levels-preserved c =
    c.in_ok-push_slice.ensures.ok
    ∙ ap (λ t. t ++ codes "_p") c.levels.invariant
    ∙ append_assoc c.args.text.now (past c.levels.counter) (codes "_p")
    ∙ ap (λ p. c.args.text.now ++ p) (sym (past_more c.levels.counter))
