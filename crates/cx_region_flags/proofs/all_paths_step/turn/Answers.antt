use Rattle.std.proofs.Common.{sym, ◌∙◌}
use Rattle.cx_plan.specs.Regions.{Turns}
use Rattle.cx_region_flags.proofs.AllPathsLaws.{leads-act}
use Rattle.cx_region_flags.proofs.all_paths_step.turn.Goals as goal

pub returns : goal.returns
returns c = λ there.
    leads-act c.args.job.now (Turns c.args.number)
    c.args.table.now c.write_item.new.table c.requires there
    (sym c.unmet_of_item.ensures ∙ c.in_ok-unless_unmet.ensures) c.write_item.ensures
