use Rattle.cx_text.proofs.Finish.{answers, answers_only}
use Rattle.cx_param.proofs.ParamLaws.{params_good, file_ends}
use Rattle.cx_param.proofs.params.read_params.Goals as goal

pub returns-clause-answers : goal.returns-clause-answers
returns-clause-answers c =
    rw (c.finish.ensures, c.as_slice-tokens.ensures)
    (answers params_good file_ends (λ x. x)
    c.args.tokens.now c.whole-answer.new.reader.rest.now c.whole-answer.result
    (rw (← c.as_slice-tokens.ensures, ← c.new-reader.ensures) c.whole-answer.ensures))

pub returns-clause-only : goal.returns-clause-only
returns-clause-only c =
    rw (c.finish.ensures, c.as_slice-tokens.ensures)
    (answers_only params_good file_ends (λ x. x)
    c.args.tokens.now c.whole-answer.new.reader.rest.now c.whole-answer.result
    (rw (← c.as_slice-tokens.ensures, ← c.new-reader.ensures) c.whole-answer.ensures))
