use Rattle.std.proofs.Common.{refl}
use Rattle.cx_program.proofs.Statuses.{status_of_answer}
use Rattle.cx_program.proofs.program.in_folder.Goals as goal

pub answer-requires-clause-empty : goal.answer-requires-clause-empty
answer-requires-clause-empty c = c.in_ok-wires.ensures.empty

pub returns : goal.returns
returns c =
    status_of_answer _ _ _ _ (λ a b v u. refl) c.answer.result _ _ _ _ c.answer.ensures.several
    c.answer.ensures.one
