use Rattle.std.proofs.Common.{◌≡◌, List, inl, map, refl, sym, subst}
use Rattle.std.specs.Prelude.{IfSome, None, Some}
use Rattle.cx_plan.specs.declared.job.Cuts.{Cuts}
use Rattle.cx_plan.specs.Setups.{setup_of}
use Rattle.cx_cut.specs.Faults.{cut_fault, parts_of}
use Rattle.cx_rule.specs.Jobs.{FitJob}
use Rattle.cx_rule.specs.declared.spec.Spec.{Spec}
use Rattle.cx_core.specs.Starts.{CanBegin, IsReady}
use Rattle.cx_run_loop.specs.Recuts.{with_cut}
use Rattle.cx_run_loop.proofs.CoresBegin.{first_anew, first_none, first_own}
use Rattle.cx_run_loop.proofs.driving.begin_cores.Goals as goal

pub returns-then-not-job-clause-cut : goal.returns-then-not-job-clause-cut
returns-then-not-job-clause-cut g c =
    first_own _ c.args.job.now c.args.found c.if-not-job.true

pub returns-then-not-job-clause-begins : goal.returns-then-not-job-clause-begins
returns-then-not-job-clause-begins g c = inl (refl, refl)

pub cut_at-requires-clause-ready : goal.cut_at-requires-clause-ready
cut_at-requires-clause-ready g c =
    subst (λ (u : Cuts). IsReady (with_cut c.args.job.now u)) (sym c.requires.own)
    c.requires.ready

pub cut_at-requires-clause-routines : goal.cut_at-requires-clause-routines
cut_at-requires-clause-routines g c =
    let specs : List Spec =
    map (λ r. (goal.Routine-dyn g (r.vtable, r.value)).spec_of r.value) c.args.routines.now in
    subst (λ (u : Cuts). FitJob specs (with_cut c.args.job.now u)) (sym c.requires.own)
    c.requires.routines

pub cut_at-requires-clause-cut : goal.cut_at-requires-clause-cut
cut_at-requires-clause-cut g c =
    subst (λ (u : Cuts). cut_fault (parts_of c.args.job.now.shape u) ≡ None) (sym c.requires.own)
    c.requires.cut

pub cut_at-requires-clause-state : goal.cut_at-requires-clause-state
cut_at-requires-clause-state g c =
    subst (λ o. IfSome o (λ x. CanBegin (setup_of c.args.job.now) (Some x))) c.in-Some.is
    c.requires.holds

pub returns-in-Some-clause-cut : goal.returns-in-Some-clause-cut
returns-in-Some-clause-cut g c =
    (first_anew c.cut_at.result c.cut_at.new.job _ c.args.job.now c.args.own.now c.requires.own
    c.args.found c.in-Some.c c.in-Some.is c.args.run c.cut_at.ensures.begins).cut

pub returns-in-Some-clause-begins : goal.returns-in-Some-clause-begins
returns-in-Some-clause-begins g c =
    (first_anew c.cut_at.result c.cut_at.new.job _ c.args.job.now c.args.own.now c.requires.own
    c.args.found c.in-Some.c c.in-Some.is c.args.run c.cut_at.ensures.begins).begins

pub returns-in-Some-clause-ready : goal.returns-in-Some-clause-ready
returns-in-Some-clause-ready g c =
    (first_anew c.cut_at.result c.cut_at.new.job _ c.args.job.now c.args.own.now c.requires.own
    c.args.found c.in-Some.c c.in-Some.is c.args.run c.cut_at.ensures.begins).ready

pub returns-in-Some-clause-routines : goal.returns-in-Some-clause-routines
returns-in-Some-clause-routines g c =
    (first_anew c.cut_at.result c.cut_at.new.job _ c.args.job.now c.args.own.now c.requires.own
    c.args.found c.in-Some.c c.in-Some.is c.args.run c.cut_at.ensures.begins).routines

pub returns-in-None-clause-cut : goal.returns-in-None-clause-cut
returns-in-None-clause-cut g c = first_none _ c.args.job.now c.args.found c.in-None.is

pub returns-in-None-clause-begins : goal.returns-in-None-clause-begins
returns-in-None-clause-begins g c = inl (refl, refl)
