use Rattle.std.proofs.Common.{refl, sym, ◌∙◌}
use Rattle.cx_plan.specs.Regions.{Outputs}
use Rattle.cx_region_flags.proofs.AllPathsLaws.{leads-still, on_ok}
use Rattle.cx_region_flags.proofs.all_paths_step.output.Goals as goal

pub returns : goal.returns
returns c =
    on_ok c.unless_unmet.result _ _
    (λ none. leads-still c.args.job.now Outputs c.args.table.now c.requires tt
    (sym c.unmet_of_output.ensures ∙ none) (λ F. refl)) c.unless_unmet.ensures
