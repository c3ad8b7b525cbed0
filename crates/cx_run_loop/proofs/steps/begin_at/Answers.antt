use Rattle.std.proofs.Common.{sym, refl, subst}
use Rattle.std.specs.Prelude.{Some}
use Rattle.cx_plan.specs.declared.job.Job.{Job}
use Rattle.cx_plan.specs.Setups.{setup_of}
use Rattle.cx_core.specs.Starts.{CanBegin}
use Rattle.cx_core.proofs.StartLaws.{can_begin}
use Rattle.cx_run_loop.proofs.steps.begin_at.Goals as goal

pub recut-requires-clause-state : goal.recut-requires-clause-state
recut-requires-clause-state g c = c.requires.state.1

pub start-requires-clause-state : goal.start-requires-clause-state
start-requires-clause-state g c =
    subst (λ (j : Job). CanBegin (setup_of j) (Some c.args.found))
    (sym c.in_ok-recut.ensures.job) c.requires.state

pub returns-clause-begins : goal.returns-clause-begins
returns-clause-begins g c = record {
  cut = c.in_ok-recut.ensures.cut;
  ready = c.in_ok-recut.ensures.ready;
  routines = c.in_ok-recut.ensures.routines;
  parts = c.in_ok-recut.ensures.parts;
  keeper = refl;
  going = c.in_ok-core.ensures.going;
  key = c.in_ok-core.ensures.key;
  lengths = c.in_ok-core.ensures.lengths;
  can = can_begin (setup_of c.recut.new.job) (Some c.args.found)
      (subst (λ (j : Job). CanBegin (setup_of j) (Some c.args.found))
      (sym c.in_ok-recut.ensures.job) c.requires.state);
  begins = c.in_ok-core.ensures.begins;
}
