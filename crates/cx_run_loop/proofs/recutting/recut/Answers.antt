use Rattle.std.proofs.Common.{List, map, sym, subst}
use Rattle.std.specs.Prelude.{Option}
use Rattle.cx_plan.specs.declared.job.Cuts.{Cuts}
use Rattle.cx_rule.specs.Jobs.{FitJob}
use Rattle.cx_rule.specs.declared.spec.Spec.{Spec}
use Rattle.cx_run_loop.specs.Recuts.{cut_or, with_cut}
use Rattle.cx_run_loop.proofs.recutting.recut.Goals as goal

pub weighed-requires-clause-routines : goal.weighed-requires-clause-routines
weighed-requires-clause-routines g c =
    let specs : List Spec =
    map (λ r. (goal.Routine-dyn g (r.vtable, r.value)).spec_of r.value) c.args.routines.now in
    subst (λ (u : Cuts). FitJob specs (with_cut c.args.job.now u)) (sym c.in_ok-job.ensures)
    c.requires.routines

pub returns-in-Some-clause-routines : goal.returns-in-Some-clause-routines
returns-in-Some-clause-routines g c =
    let specs : List Spec =
    map (λ r. (goal.Routine-dyn g (r.vtable, r.value)).spec_of r.value) c.args.routines.now in
    subst (λ (o : Option Cuts). FitJob specs (with_cut c.args.job.now
    (cut_or o c.in_ok-job.field-0))) c.in-Some.is c.in_ok-cut.ensures.routines

pub returns-in_default-clause-routines : goal.returns-in_default-clause-routines
returns-in_default-clause-routines g c =
    let specs : List Spec =
    map (λ r. (goal.Routine-dyn g (r.vtable, r.value)).spec_of r.value) c.args.routines.now in
    subst (λ (o : Option Cuts). FitJob specs (with_cut c.args.job.now
    (cut_or o c.in_ok-job.field-0))) c.in_default.is c.in_ok-cut.ensures.routines
