use Rattle.std.proofs.Common.{◌∙◌, ap, ◌++◌}
use Rattle.cx_cut.specs.Cuts.{neighbour}
use Rattle.cx_job.proofs.LineLaws.{one_number_more}
use Rattle.cx_run.specs.CutTexts.{neighbour_text}
use Rattle.cx_run.proofs.cut_texts.push_side.Goals as goal

pub directions-preserved : goal.directions-preserved
directions-preserved c =
    one_number_more (λ d. neighbour_text (neighbour c.args.cut.now c.args.part d c.args.side))
    c.args.text.now c.directions.direction c.directions.invariant
    (c.in_ok-push_neighbour.ensures
    ∙ ap (λ other. c.directions.text ++ neighbour_text other) c.neighbour.ensures)
