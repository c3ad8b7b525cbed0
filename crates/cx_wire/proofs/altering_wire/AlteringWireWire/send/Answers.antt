use Rattle.std.proofs.Common.{true, refl, sym, ap, ◌∙◌, FitsSigned, w64, rules, to_z-of_z}
use Rattle.cx_wire.specs.declared.mail.Mail.{Mail}
use Rattle.cx_wire.specs.Altering.{with_first}
use Rattle.cx_wire.specs.Memory.{queue_of}
use Rattle.cx_wire.proofs.Tables.{if_sent}
use Rattle.cx_wire.proofs.Alterings.{due_first, alters_none, alters_some, alters_err}
use Rattle.cx_wire.proofs.Untold.{hide_gains, hide_same, if_unsent, put_back}
use Rattle.cx_wire.proofs.altering_wire.AlteringWireWire.send.Goals as goal

pub returns-in_default-clause-sent : goal.returns-in_default-clause-sent
returns-in_default-clause-sent c =
    rw (← c.self.view_is)
    (if_sent c.send.result (hide_gains (queue_of c.self.inside.wire) (queue_of c.send.new.self)
    _ _ c.args.mail c.args.mail refl) c.send.ensures.sent)

pub returns-in_default-clause-unsent : goal.returns-in_default-clause-unsent
returns-in_default-clause-unsent c =
    rw (← c.self.view_is)
    (if_unsent c.send.result (hide_same (queue_of c.self.inside.wire) (queue_of c.send.new.self))
    c.send.ensures.unsent)

pub returns-in-Ok-clause-sent : goal.returns-in-Ok-clause-sent
returns-in-Ok-clause-sent c =
    rw (← c.self.view_is)
    (hide_gains (queue_of c.self.inside.wire) (queue_of c.send-2.new.self)
    _ _ c.with_first.result c.args.mail (ap (λ (m : Mail). m.head) c.with_first.ensures)
    c.in-Ok.ensures.sent)

pub returns-in-Err-clause-unsent : goal.returns-in-Err-clause-unsent
returns-in-Err-clause-unsent c =
    rw (← c.self.view_is) (hide_same (queue_of c.self.inside.wire) (queue_of c.send-2.new.self)
    c.in-Err.ensures.unsent)

pub returns-in-Err-clause-back : goal.returns-in-Err-clause-back
returns-in-Err-clause-back c =
    let fits : FitsSigned w64 c.in-Some.first = search rules in
    rw (to_z-of_z fits) at c.with_first-in-Err.ensures
    ∙ ap (λ (m : Mail). with_first m c.in-Some.first) (c.in-Err.ensures.back ∙ c.with_first.ensures)
    ∙ put_back c.args.mail c.in-Some.first _
    (due_first c.args.self.now c.args.from c.args.mail c.in-Some.first
    (sym c.due.ensures ∙ c.in-Some.is))

pub returns-in_default-clause-alters : goal.returns-in_default-clause-alters
returns-in_default-clause-alters c =
    alters_none _ c.args.self.now
    (record { wire = c.send.new.self; altered = c.self.inside.altered })
    c.self.view_is c.args.from c.args.to c.args.mail c.send.result
    (sym c.due.ensures ∙ c.in_default.is) c.send.ensures.sent c.send.ensures.unsent refl

pub returns-in-Ok-clause-alters : goal.returns-in-Ok-clause-alters
returns-in-Ok-clause-alters c =
    alters_some _ c.args.self.now (record { wire = c.send-2.new.self; altered = true })
    c.self.view_is c.args.from c.args.to c.args.mail c.in-Some.first c.with_first.result
    (sym c.due.ensures ∙ c.in-Some.is) c.with_first.ensures c.in-Ok.ensures.sent refl

pub returns-in-Err-clause-alters : goal.returns-in-Err-clause-alters
returns-in-Err-clause-alters c =
    alters_err _ c.args.self.now
    (record { wire = c.send-2.new.self; altered = c.self.inside.altered })
    c.self.view_is c.args.from c.args.to c.args.mail c.in-Err.ensures.unsent refl
