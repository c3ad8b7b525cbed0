use Rattle.std.proofs.Common.{List, map, sym, ◌∙◌, ap, subst}
use Rattle.std.specs.Prelude.{IfOk, Some}
use Rattle.cx_plan.specs.Setups.{setup_of}
use Rattle.cx_rule.specs.declared.spec.Spec.{Spec}
use Rattle.cx_chk.specs.declared.checkpoint.Checkpoint.{Checkpoint}
use Rattle.cx_core.specs.Starts.{CanBegin}
use Rattle.cx_run_loop.specs.Recuts.{with_cut}
use Rattle.cx_run_loop.specs.UnderWay.{BeginsAnew, Runs}
use Rattle.cx_run_loop.proofs.steps.Run.cut_anew.Goals as goal

pub begin_at-requires-clause-state : goal.begin_at-requires-clause-state
begin_at-requires-clause-state g c =
    subst (λ (x : Checkpoint). CanBegin (setup_of c.args.job.now) (Some x))
    (ap (λ (r : Runs). r.core.buffers.state) (sym c.self.view_is)
    ∙ sym c.into_state-found.ensures) c.requires.state

pub returns-clause-begins : goal.returns-clause-begins
returns-clause-begins g c =
    let specs : List Spec =
    map (λ r. (goal.Routine-dyn g (r.vtable, r.value)).spec_of r.value) c.args.routines.now in
    subst (λ (r : Runs). IfOk c.begin_at.result (BeginsAnew c.begin_at.new.job specs
    (with_cut c.args.job.now c.args.own.now) r.core.buffers.state r.keeper)) c.self.view_is
    (subst (λ (x : Checkpoint). IfOk c.begin_at.result (BeginsAnew c.begin_at.new.job specs
    (with_cut c.args.job.now c.args.own.now) x c.self.inside.keep)) c.into_state-found.ensures
    c.begin_at.ensures.begins)
