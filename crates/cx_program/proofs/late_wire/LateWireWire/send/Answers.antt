use Rattle.std.proofs.Common.{◌≡◌, ◌∙◌, sym, ap, subst}
use Rattle.std.specs.Prelude.{Option, unwrap_or, OnOk, OnErr}
use Rattle.cx_wire.specs.Memory.{Carried, new_wire, told_queue}
use Rattle.cx_wire.specs.Messages.{sent}
use Rattle.cx_wire.specs.Queues.{Gains, SameQueues}
use Rattle.cx_program.proofs.late_wire.LateWireWire.send.Goals as goal

pub returns-in-None-clause-sent : goal.returns-in-None-clause-sent
returns-in-None-clause-sent c =
    let parts = c.self.inside.parts in
    let is : new_wire parts ≡ c.args.self.now =
    sym (ap (λ (o : Option Carried). unwrap_or o (new_wire parts)) c.in-None.is)
    ∙ c.self.view_is in
    subst (λ (w : Carried). OnOk c.send_first.result (Gains (told_queue w)
    (told_queue (unwrap_or c.send_first.new.made (new_wire parts))) c.args.from c.args.to
    (sent c.args.mail))) is c.send_first.ensures.sent

pub returns-in-None-clause-unsent : goal.returns-in-None-clause-unsent
returns-in-None-clause-unsent c =
    let parts = c.self.inside.parts in
    let is : new_wire parts ≡ c.args.self.now =
    sym (ap (λ (o : Option Carried). unwrap_or o (new_wire parts)) c.in-None.is)
    ∙ c.self.view_is in
    subst (λ (w : Carried). OnErr c.send_first.result (SameQueues (told_queue w)
    (told_queue (unwrap_or c.send_first.new.made (new_wire parts))))) is
    c.send_first.ensures.unsent
