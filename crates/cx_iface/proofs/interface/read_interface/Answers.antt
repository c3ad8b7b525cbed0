use Rattle.cx_iface.proofs.Header.{answers, answers_only}
use Rattle.cx_iface.proofs.interface.read_interface.Goals as goal

pub returns-clause-answers : goal.returns-clause-answers
returns-clause-answers c =
    rw (c.implemented.ensures, c.finish-finished.ensures, c.as_slice-tokens.ensures)
    (answers c.args.tokens.now c.whole-answer.new.reader.rest.now c.whole-answer.result
    (rw (← c.as_slice-tokens.ensures, ← c.new-reader.ensures) c.whole-answer.ensures))

pub returns-clause-only : goal.returns-clause-only
returns-clause-only c =
    rw (c.implemented.ensures, c.finish-finished.ensures, c.as_slice-tokens.ensures)
    (answers_only c.args.tokens.now c.whole-answer.new.reader.rest.now c.whole-answer.result
    (rw (← c.as_slice-tokens.ensures, ← c.new-reader.ensures) c.whole-answer.ensures))
