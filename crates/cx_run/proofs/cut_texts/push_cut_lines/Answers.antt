use Rattle.cx_cut.specs.Faults.{parts_of}
use Rattle.cx_job.proofs.LineLaws.{one_number_more}
use Rattle.cx_run.specs.CutTexts.{cut_line}
use Rattle.cx_run.proofs.cut_texts.push_cut_lines.Goals as goal

pub directions-preserved : goal.directions-preserved
directions-preserved c =
    one_number_more (cut_line (parts_of c.args.job.now.shape c.args.job.now.cut))
    c.args.text.now c.directions.direction c.directions.invariant c.in_ok-push_cut_line.ensures
