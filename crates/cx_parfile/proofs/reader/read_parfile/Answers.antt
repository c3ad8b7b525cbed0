use Rattle.std.proofs.Common.{refl}
use Rattle.cx_text.proofs.Finish.{answers, answers_only}
use Rattle.cx_parfile.proofs.ParLaws.{parameter_file_good}
use Rattle.cx_parfile.proofs.reader.read_parfile.Goals as goal

pub returns-clause-answers : goal.returns-clause-answers
returns-clause-answers c =
    rw (c.finish.ensures, c.as_slice-tokens.ensures)
    (answers (parameter_file_good c.args.base.now) refl (λ x. x)
    c.args.tokens.now c.whole-answer.new.reader.rest.now c.whole-answer.result
    (rw (← c.as_slice-tokens.ensures, ← c.new-reader.ensures, ← c.as_slice.ensures)
    c.whole-answer.ensures))

pub returns-clause-only : goal.returns-clause-only
returns-clause-only c =
    rw (c.finish.ensures, c.as_slice-tokens.ensures)
    (answers_only (parameter_file_good c.args.base.now) refl (λ x. x)
    c.args.tokens.now c.whole-answer.new.reader.rest.now c.whole-answer.result
    (rw (← c.as_slice-tokens.ensures, ← c.new-reader.ensures, ← c.as_slice.ensures)
    c.whole-answer.ensures))
