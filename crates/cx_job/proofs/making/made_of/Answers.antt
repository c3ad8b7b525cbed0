use Rattle.std.proofs.Common.{map}
use Rattle.std.proofs.lemmas.Result.{err_from_is_err_and}
use Rattle.cx_job_files.specs.Stages.{Is}
use Rattle.cx_job.specs.Making.{bound_thorns, assigned_values, SteersAnd, ValuesAnd}
use Rattle.cx_job.proofs.MakingLaws.{bound_not, values_not, reaches_halt, reaches_pass}
use Rattle.cx_job.proofs.making.made_of.Goals as goal

pub returns-in_err-bound-clause-made : goal.returns-in_err-bound-clause-made
returns-in_err-bound-clause-made g c =
    let specs = map (λ s. s.now) c.args.specs.now in
    let thorns = c.args.configured.thorns in
    let p = err_from_is_err_and c.from_residual.result c.from_residual.ensures.1 in
    rw (p.1, p.2)
    (reaches_halt (Is (bound_thorns thorns))
    (λ files. ValuesAnd specs files c.args.configured.schedules c.args.configured.settings.list)
    g.H.Shelf.tells (g.H.Shelf.held c.args.shelf.now) (g.H.Shelf.faults c.args.shelf.now)
    c.in_err-bound.field-0.0 c.in_err-bound.ensures (bound_not thorns))

pub returns-in_err-values-clause-made : goal.returns-in_err-values-clause-made
returns-in_err-values-clause-made g c =
    let specs = map (λ s. s.now) c.args.specs.now in
    let thorns = c.args.configured.thorns in
    let schedules = c.args.configured.schedules in
    let settings = c.args.configured.settings.list in
    let bound = c.in_ok-bound.bound in
    let held = g.H.Shelf.held c.args.shelf.now in
    let count = g.H.Shelf.faults c.args.shelf.now in
    let p = err_from_is_err_and c.from_residual-in_err-values.result
    c.from_residual-in_err-values.ensures.1 in
    rw (p.1, p.2)
    (reaches_pass (Is (bound_thorns thorns)) (λ files. ValuesAnd specs files schedules settings)
    g.H.Shelf.tells held held count count bound _ c.in_ok-bound.ensures
    (reaches_halt (Is (assigned_values bound settings))
    (λ files. SteersAnd specs files schedules bound) g.H.Shelf.tells held count
    c.in_err-values.field-0.0 c.in_err-values.ensures (values_not bound settings)))

pub returns-clause-made : goal.returns-clause-made
returns-clause-made g c =
    let specs = map (λ s. s.now) c.args.specs.now in
    let thorns = c.args.configured.thorns in
    let schedules = c.args.configured.schedules in
    let settings = c.args.configured.settings.list in
    let bound = c.in_ok-bound.bound in
    let held = g.H.Shelf.held c.args.shelf.now in
    let count = g.H.Shelf.faults c.args.shelf.now in
    let held1 = g.H.Shelf.held c.steers_and.new.shelf in
    let count1 = g.H.Shelf.faults c.steers_and.new.shelf in
    reaches_pass (Is (bound_thorns thorns)) (λ files. ValuesAnd specs files schedules settings)
    g.H.Shelf.tells held held1 count count1 bound c.steers_and.result c.in_ok-bound.ensures
    (reaches_pass (Is (assigned_values bound settings))
    (λ files. SteersAnd specs files schedules bound) g.H.Shelf.tells held held1 count count1
    c.in_ok-values.values c.steers_and.result c.in_ok-values.ensures c.steers_and.ensures.made)
