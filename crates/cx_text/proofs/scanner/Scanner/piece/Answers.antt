use Rattle.cx_text.specs.Bytes.{role_of}
use Rattle.cx_text.specs.Pieces.{fault_at}
use Rattle.cx_text.proofs.StepLaws.{comment_step, word_step, number_step, joint_step}
use Rattle.cx_text.proofs.scanner.Scanner.piece.Goals as goal

pub returns-in-Comment : goal.returns-in-Comment
returns-in-Comment c =
    let a = c.args in
    let fault = fault_at (role_of a.style a.self.now.fresh a.first) a.self.now.line in
    rw (c.run.ensures.line, c.run.ensures.rest)
    (comment_step a.style a.self.now.fresh a.self.now.line fault a.first a.self.now.rest.now
    c.role_of.result c.role_of.ensures c.in-Comment.is)

pub returns-in-Word : goal.returns-in-Word
returns-in-Word c =
    let a = c.args in
    let fault = fault_at (role_of a.style a.self.now.fresh a.first) a.self.now.line in
    let e = c.long_token.ensures in
    rw (e.fresh, e.line, e.rest)
    (word_step a.style a.self.now.fresh a.self.now.line fault a.first a.self.now.rest.now
    c.long_token.result c.in-Word.ensures e.token)

pub returns-in-Number : goal.returns-in-Number
returns-in-Number c =
    let a = c.args in
    let fault = fault_at (role_of a.style a.self.now.fresh a.first) a.self.now.line in
    let e = c.long_token-in-Number.ensures in
    rw (e.fresh, e.line, e.rest)
    (number_step a.style a.self.now.fresh a.self.now.line fault a.first a.self.now.rest.now
    c.long_token-in-Number.result c.in-Number.ensures e.token)

pub returns-else-not-take_byte : goal.returns-else-not-take_byte
returns-else-not-take_byte c =
    let a = c.args in
    let fault = fault_at (role_of a.style a.self.now.fresh a.first) a.self.now.line in
    let before = c.run-in-Joint.ensures in
    let taken = rw before.rest at c.if-not-take_byte.ensures.taken in
    rw (c.take_byte.ensures.line, before.line)
    (joint_step a.style a.self.now.fresh a.self.now.line fault a.first a.self.now.rest.now
    c.take_byte.new.self.rest.now c.in-Joint.ensures taken)
