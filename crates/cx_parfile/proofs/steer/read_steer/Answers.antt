use Rattle.std.proofs.Common.{refl}
use Rattle.cx_text.proofs.Finish.{answers, answers_only}
use Rattle.cx_parfile.proofs.SteerLaws.{steer_file_good}
use Rattle.cx_parfile.proofs.steer.read_steer.Goals as goal

pub returns-clause-answers : goal.returns-clause-answers
returns-clause-answers c =
    rw (c.finish.ensures, c.as_slice-tokens.ensures)
    (answers steer_file_good refl (λ x. x)
    c.args.tokens.now c.whole-answer.new.reader.rest.now c.whole-answer.result
    (rw (← c.as_slice-tokens.ensures, ← c.new-reader.ensures) c.whole-answer.ensures))

pub returns-clause-only : goal.returns-clause-only
returns-clause-only c =
    rw (c.finish.ensures, c.as_slice-tokens.ensures)
    (answers_only steer_file_good refl (λ x. x)
    c.args.tokens.now c.whole-answer.new.reader.rest.now c.whole-answer.result
    (rw (← c.as_slice-tokens.ensures, ← c.new-reader.ensures) c.whole-answer.ensures))
