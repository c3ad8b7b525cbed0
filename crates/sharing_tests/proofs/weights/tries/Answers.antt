use Rattle.std.proofs.Common.{refl, sym, subst}
use Rattle.cx_plan.specs.declared.job.Job.{Job}
use Rattle.cx_plan.specs.Whole.{IsWhole}
use Rattle.sharing_tests.proofs.SampleLaws.{sample-whole}
use Rattle.sharing_tests.proofs.weights.tries.Goals as goal

pub chooses-requires-clause-whole : goal.chooses-requires-clause-whole
chooses-requires-clause-whole c =
    subst (λ (j : Job). IsWhole j) (sym c.in_ok-job.ensures)
    (sample-whole c.shape_of-shape.result c.in_ok-own.own c.args.row.now.weighed
    c.args.row.now.factor c.shape_of-shape.ensures (c.if-fit.ensures refl).few_times)
