use Rattle.cx_job.proofs.LineLaws.{one_number_more}
use Rattle.cx_run.specs.CutTexts.{part_line}
use Rattle.cx_run.proofs.cut_texts.push_parts.Goals as goal

pub parts-preserved : goal.parts-preserved
parts-preserved c = one_number_more (part_line c.args.cut.now)
    c.args.text.now c.parts.part c.parts.invariant c.in_ok-push_part.ensures
