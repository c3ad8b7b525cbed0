use Rattle.std.proofs.Common.{sym, ◌∙◌}
use Rattle.cx_plan.specs.Regions.{Syncs}
use Rattle.cx_region_flags.proofs.AllPathsLaws.{leads-act}
use Rattle.cx_region_flags.proofs.all_paths_step.exchange.Goals as goal

pub returns : goal.returns
returns c = λ stored.
    leads-act c.args.job.now (Syncs c.args.variables.now c.args.path.now)
    c.args.table.now c.exchange.new.self c.requires stored
    (sym c.unmet_of_sync.ensures ∙ c.in_ok-unless_unmet.ensures) c.exchange.ensures
