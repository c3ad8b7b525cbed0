use Rattle.std.proofs.Common.{List, IsTrue, true, false, ap}
use Rattle.cx_wire.specs.declared.mail.Mail.{Mail}
use Rattle.cx_wire.proofs.NewWires.{new_is_empty}
use Rattle.cx_wire.proofs.memory_wire.MemoryWire.new.Goals as goal

pub returns-clause-told : goal.returns-clause-told
returns-clause-told c = new_is_empty (IsTrue true) c.args.parts _
    (ap (λ (queues : List (List Mail)).
    record { parts = c.args.parts; queues = queues; received = 0; sum = 0 })
    c.in_ok-queues.ensures)

pub returns-clause-bare : goal.returns-clause-bare
returns-clause-bare c = new_is_empty (IsTrue false) c.args.parts _
    (ap (λ (queues : List (List Mail)).
    record { parts = c.args.parts; queues = queues; received = 0; sum = 0 })
    c.in_ok-queues.ensures)
