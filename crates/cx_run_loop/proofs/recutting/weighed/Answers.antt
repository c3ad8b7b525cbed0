use Rattle.std.proofs.Common.{sym, ◌∙◌}
use Rattle.cx_run_loop.proofs.RecutLaws.{fits_with, holds_levels, next_too_large, next_unbalanced, next_weighed, parts_with, ready_with}
use Rattle.cx_run_loop.proofs.recutting.weighed.Goals as goal

pub cut_by_weight-requires-clause-state : goal.cut_by_weight-requires-clause-state
cut_by_weight-requires-clause-state g c =
    c.checkpoints_weigh.ensures c.args.job.now c.args.c.now c.requires.ready.whole
    (holds_levels c.args.job.now c.args.c.now c.requires.state)

pub returns-then-not-job-clause-cut : goal.returns-then-not-job-clause-cut
returns-then-not-job-clause-cut g c =
    next_unbalanced _ c.args.job.now c.args.c.now c.if-not-job.true

pub returns-then-branch-clause-cut : goal.returns-then-branch-clause-cut
returns-then-branch-clause-cut g c =
    next_weighed _ c.args.job.now c.args.c.now c.in_ok-chosen.chosen c.if-not-job.false
    c.in_ok-chosen.ensures.value (sym c.in_ok-all_sweep.ensures ∙ c.if-branch.true)

pub returns-then-branch-clause-ready : goal.returns-then-branch-clause-ready
returns-then-branch-clause-ready g c =
    ready_with c.args.job.now c.args.job.now.cut c.in_ok-chosen.chosen c.requires.ready
    c.in_ok-chosen.ensures.accepted

pub returns-then-branch-clause-routines : goal.returns-then-branch-clause-routines
returns-then-branch-clause-routines g c =
    fits_with _ c.args.job.now c.args.job.now.cut c.in_ok-chosen.chosen
    (sym c.in_ok-all_sweep.ensures ∙ c.if-branch.true) c.requires.routines

pub returns-then-branch-clause-parts : goal.returns-then-branch-clause-parts
returns-then-branch-clause-parts g c =
    parts_with c.args.job.now c.in_ok-chosen.chosen c.in_ok-chosen.ensures.parts

pub returns-else-branch-clause-cut : goal.returns-else-branch-clause-cut
returns-else-branch-clause-cut g c =
    next_too_large _ c.args.job.now c.args.c.now c.in_ok-chosen.chosen c.if-not-job.false
    c.in_ok-chosen.ensures.value (sym c.in_ok-all_sweep.ensures ∙ c.if-branch.false)
