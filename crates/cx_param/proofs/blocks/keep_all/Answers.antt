use Rattle.cx_text.proofs.Loops.{begun, turned, fewer, stopped, ended_at}
use Rattle.cx_text.specs.Lexemes.{is_inside}
use Rattle.cx_text.proofs.LexemeLaws.{more_kept_short}
use Rattle.cx_param.proofs.BlockLaws.{an_inside}
use Rattle.cx_param.proofs.blocks.keep_all.Goals as goal

pub turns-init : goal.turns-init
turns-init c = begun

pub turns-preserved : goal.turns-preserved
turns-preserved c = turned (more_kept_short is_inside an_inside)
    c.turns.invariant c.at_inside.ensures c.turns-test.true c.in_ok-keep.ensures

pub turns-smaller : goal.turns-smaller
turns-smaller c = fewer (more_kept_short is_inside an_inside) c.in_ok-keep.ensures

pub returns-in_err-keep : goal.returns-in_err-keep
returns-in_err-keep c = stopped _ _ _ _ (more_kept_short is_inside an_inside)
    c.turns.invariant c.at_inside.ensures c.turns-test.true c.in_err-keep.ensures
    c.from_residual.ensures.1

pub returns : goal.returns
returns c = ended_at (more_kept_short is_inside an_inside)
    c.turns.invariant c.at_inside.ensures c.turns-test.false
