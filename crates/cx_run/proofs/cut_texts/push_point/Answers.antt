use Rattle.std.proofs.Common.{◌∙◌, ap, ◌++◌}
use Rattle.cx_job.proofs.LineLaws.{one_number_more}
use Rattle.cx_run.specs.CutTexts.{number_text, coordinate_text}
use Rattle.cx_run.proofs.cut_texts.push_point.Goals as goal

pub directions-preserved : goal.directions-preserved
directions-preserved c =
    one_number_more (coordinate_text c.args.p)
    c.args.text.now c.directions.direction c.directions.invariant
    (c.in_ok-push_number.ensures
    ∙ ap (λ n. c.directions.text ++ number_text n) (c.from.ensures ∙ c.coordinate.ensures))
