use Rattle.cx_text.proofs.Loops.{begun, turned, fewer, stopped, ended_at}
use Rattle.cx_iface.proofs.FileLaws.{more_kept_in_line_short}
use Rattle.cx_iface.proofs.interface.kept_up_to_line_end.Goals as goal

pub kept-init : goal.kept-init
kept-init c = begun

pub kept-preserved : goal.kept-preserved
kept-preserved c = turned more_kept_in_line_short c.kept.invariant c.at_in_line.ensures
    c.kept-test.true c.in_ok-more_kept.ensures

pub kept-smaller : goal.kept-smaller
kept-smaller c = fewer more_kept_in_line_short c.in_ok-more_kept.ensures

pub returns-in_err-more_kept : goal.returns-in_err-more_kept
returns-in_err-more_kept c =
    stopped _ _ _ _ more_kept_in_line_short c.kept.invariant c.at_in_line.ensures c.kept-test.true
    c.in_err-more_kept.ensures c.from_residual.ensures.1

pub returns : goal.returns
returns c = ended_at more_kept_in_line_short c.kept.invariant c.at_in_line.ensures c.kept-test.false
