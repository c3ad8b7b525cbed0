use Rattle.std.proofs.Common.{true, IsTrue}
use Rattle.cx_wire.proofs.Tables.{one_less}
use Rattle.cx_wire.proofs.memory_wire.MemoryWireWire.receive.Goals as goal

pub returns-clause-taken : goal.returns-clause-taken
returns-clause-taken c =
    let f = rw (← c.self.view_is) at c.requires.from in
    let o = rw (← c.self.view_is) at c.requires.to in
    let rest = rw c.number-at.ensures.value at c.take_from-mail.ensures.rest in
    let front = rw c.number-at.ensures.value at c.take_from-mail.ensures.front in
    rw (← c.self.view_is)
    (one_less (IsTrue true)
    c.self.inside.parts _ _ c.self.invariant.full c.args.from c.args.to f o _ _ rest front)
