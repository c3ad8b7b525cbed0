use Rattle.cx_wire.specs.Memory.{queue_of}
use Rattle.cx_wire.proofs.Untold.{if_taken, hide_loses, mails_lose}
use Rattle.cx_wire.proofs.altering_wire.AlteringWireWire.receive.Goals as goal

pub returns-clause-taken : goal.returns-clause-taken
returns-clause-taken c =
    rw (← c.self.view_is)
    (if_taken c.receive.result
    (λ m. hide_loses (queue_of c.self.inside.wire) (queue_of c.receive.new.self)
    c.args.from c.args.to m) c.receive.ensures.taken)

pub returns-clause-mail : goal.returns-clause-mail
returns-clause-mail c =
    rw (← c.self.view_is)
    (if_taken c.receive.result
    (λ m. mails_lose (queue_of c.self.inside.wire) (queue_of c.receive.new.self)
    c.args.from c.args.to m) c.receive.ensures.taken)
