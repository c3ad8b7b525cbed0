use Rattle.std.proofs.Common.{◌≡◌, ◌∙◌, ap, subst, map, rules}
use Rattle.cx_plan.specs.Lists.{first_of_each}
use Rattle.cx_text.specs.Telling.{Tells}
use Rattle.cx_job.specs.Caps.{greatest_part, cap_fault}
use Rattle.cx_job.specs.LocalCells.{items_run}
use Rattle.cx_job.specs.declared.fault.JobFault.TheVariants as faults
use Rattle.cx_job.proofs.stages.check_largest.Goals as goal

pub returns : goal.returns
returns c =
    let job = c.args.job.now in
    let specs = map (λ s. s.now) c.args.specs.now in
    let items : c.first_items-items.result.now ≡ items_run job = search rules in
    let points = c.greatest_part.ensures ∙ ap greatest_part c.requires.cut in
    subst (λ n. Tells faults.Memory (first_of_each (cap_fault specs n) (items_run job))
    c.check_caps.result) points
    (subst (λ xs. Tells faults.Memory (first_of_each (cap_fault specs c.greatest_part.result) xs)
    c.check_caps.result) items c.check_caps.ensures)
