use Rattle.std.proofs.Common.{sym, subst, ◌∙◌, List}
use Rattle.cx_plan.specs.Setups.{setup_of}
use Rattle.cx_plan.specs.Paths.{PathOfIteration}
use Rattle.cx_region_flags.specs.declared.flags.LevelFlags.{LevelFlags}
use Rattle.cx_region_flags.specs.AllPaths.{Leads}
use Rattle.cx_region_flags.proofs.FallLaws.{falls}
use Rattle.cx_region_flags.proofs.MeetLaws.{below-from-test}
use Rattle.cx_region_flags.proofs.AllPathsJobLaws.{leads-iterations}
use Rattle.cx_region_flags.proofs.all_paths_job.walk_iterations.Goals as goal

pub returns-then-is_below : goal.returns-then-is_below
returns-then-is_below c =
    let job = c.args.job.now in
    let old = c.iterations.table in
    let behind = c.walk_iteration.new.table in
    let body =
    subst (λ (cells : List LevelFlags). Leads job (PathOfIteration (setup_of job)) cells behind)
    c.in_ok-behind.ensures c.in_ok-walk_iteration.ensures in
    leads-iterations job c.args.table.now old behind c.iterations.invariant
    (below-from-test old behind (sym body.same_length)
    (sym c.is_below.ensures ∙ c.if-is_below.true)) body

pub iterations-smaller : goal.iterations-smaller
iterations-smaller c =
    falls c.iterations.table c.walk_iteration.new.table c.meet.new.self c.meet.ensures
    (sym c.is_below.ensures ∙ c.if-is_below.false)
