use Rattle.std.proofs.Common.{List, map, subst}
use Rattle.std.specs.Prelude.{IfOk}
use Rattle.cx_keep.specs.Keeping.{Keeper}
use Rattle.cx_rule.specs.declared.spec.Spec.{Spec}
use Rattle.cx_run_loop.specs.Recuts.{with_cut}
use Rattle.cx_run_loop.specs.UnderWay.{BeginsAnew}
use Rattle.cx_run_loop.proofs.steps.Run.cut_at.Goals as goal

pub returns-clause-begins : goal.returns-clause-begins
returns-clause-begins g c =
    let specs : List Spec =
    map (λ r. (goal.Routine-dyn g (r.vtable, r.value)).spec_of r.value) c.args.routines.now in
    subst (λ (k : Keeper). IfOk c.begin_at.result (BeginsAnew c.begin_at.new.job specs
    (with_cut c.args.job.now c.args.own.now) c.args.found k)) c.into_keep-keep.ensures
    c.begin_at.ensures.begins
