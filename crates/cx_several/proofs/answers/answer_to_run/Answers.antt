use Rattle.cx_several.proofs.AnswerLaws.{answers_run}
use Rattle.cx_several.proofs.answers.answer_to_run.Goals as goal

pub returns-in-Ok : goal.returns-in-Ok
returns-in-Ok c =
    rw c.in-Ok.is
    (answers_run c.args.job.now c.in-Ok.core c.answer_to_core.result c.answer_to_core.ensures)
