use Rattle.std.proofs.Common.{ℕ, ◌≤◌, sym, subst, map}
use Rattle.std.proofs.lemmas.Result.{err_from_is_err_and}
use Rattle.cx_order.specs.Files.{input_of}
use Rattle.cx_job.proofs.CountLaws.{few_runs}
use Rattle.cx_job.proofs.PlanFacts.{not_large}
use Rattle.cx_job.proofs.ReadyLaws.{over_limits, items_made, whole_of, run_of, names_of, ready_of}
use Rattle.cx_job.proofs.making.items_and.Goals as goal

pub run_count-run-requires : goal.run_count-run-requires
run_count-run-requires c =
    let plan = c.requires.planned in
    record {
      few = few_runs c.args.ordered.plan
          (not_large (input_of c.args.bound.now plan.files c.args.values.now)
          c.args.ordered plan.plan);
    }

pub within_limits-requires-clause-few : goal.within_limits-requires-clause-few
within_limits-requires-clause-few c =
    let plan = c.requires.planned in
    subst (λ (n : ℕ). n ≤ 4096) (sym c.run_count-run.ensures)
    (few_runs c.args.ordered.plan
    (not_large (input_of c.args.bound.now plan.files c.args.values.now)
    c.args.ordered plan.plan))

pub returns-in_err-job-clause-made : goal.returns-in_err-job-clause-made
returns-in_err-job-clause-made c =
    let specs = map (λ s. s.now) c.args.specs.now in
    let p = err_from_is_err_and c.from_residual-in_err-job.result
    c.from_residual-in_err-job.ensures.1 in
    rw (p.1, p.2)
    (over_limits specs c.args.steps.now c.args.bound.now c.args.values.now c.args.ordered
    c.args.out_vars
    c.match_items.new.ordered c.run_count-run.result c.in_ok-items.items
    c.in_ok-items.ensures.others c.run_count-run.ensures
    c.in_err-job.field-0.0 c.in_ok-items.ensures.items c.in_err-job.ensures)

pub cut_and-requires : goal.cut_and-requires
cut_and-requires c =
    let specs = map (λ s. s.now) c.args.specs.now in
    whole_of specs c.args.steps.now c.args.bound.now c.args.values.now c.args.ordered
    c.args.out_vars
    c.match_items.new.ordered c.run_count-run.result c.in_ok-items.items
    c.in_ok-items.ensures.others c.run_count-run.ensures
    c.in_ok-job.job c.in_ok-items.ensures.items c.in_ok-job.ensures c.requires.planned
    c.requires.later c.requires.read c.requires.written c.requires.weighs

pub returns-clause-made : goal.returns-clause-made
returns-clause-made c =
    let specs = map (λ s. s.now) c.args.specs.now in
    items_made specs c.args.steps.now c.args.bound.now c.args.values.now c.args.ordered
    c.args.out_vars
    c.match_items.new.ordered c.run_count-run.result c.in_ok-items.items
    c.in_ok-items.ensures.others c.run_count-run.ensures
    c.in_ok-job.job c.cut_and.result c.in_ok-items.ensures.items c.in_ok-job.ensures
    c.cut_and.ensures

pub returns-clause-ready : goal.returns-clause-ready
returns-clause-ready c =
    let specs = map (λ s. s.now) c.args.specs.now in
    ready_of specs c.in_ok-job.job c.cut_and.result
    (whole_of specs c.args.steps.now c.args.bound.now c.args.values.now c.args.ordered
    c.args.out_vars
    c.match_items.new.ordered c.run_count-run.result c.in_ok-items.items
    c.in_ok-items.ensures.others c.run_count-run.ensures
    c.in_ok-job.job c.in_ok-items.ensures.items c.in_ok-job.ensures c.requires.planned
    c.requires.later c.requires.read c.requires.written c.requires.weighs)
    (run_of specs c.args.steps.now c.args.bound.now c.args.values.now c.args.ordered c.args.out_vars
    c.match_items.new.ordered c.run_count-run.result c.in_ok-items.items
    c.in_ok-items.ensures.others c.run_count-run.ensures
    c.in_ok-job.job c.in_ok-items.ensures.items c.in_ok-job.ensures c.requires.planned
    c.requires.later)
    (names_of specs c.args.steps.now c.args.bound.now c.args.values.now c.args.ordered
    c.args.out_vars
    c.match_items.new.ordered c.run_count-run.result c.in_ok-items.items
    c.in_ok-items.ensures.others c.run_count-run.ensures
    c.in_ok-job.job c.in_ok-items.ensures.items c.in_ok-job.ensures c.requires.planned
    c.requires.later)
    c.cut_and.ensures
