use Rattle.std.proofs.Common.{true, IsTrue}
use Rattle.cx_wire.proofs.Tables.{if_sent, one_more}
use Rattle.cx_wire.proofs.memory_wire.MemoryWireWire.send.Goals as goal

pub returns-clause-sent : goal.returns-clause-sent
returns-clause-sent c =
    let f = rw (← c.self.view_is) at c.requires.from in
    let o = rw (← c.self.view_is) at c.requires.to in
    rw (← c.self.view_is)
    (if_sent c.add_to.result
    (λ e. one_more (IsTrue true)
    c.self.inside.parts _ _ c.self.invariant.full c.args.from c.args.to f o c.args.mail
    (rw c.number-at.ensures.value at e))
    c.add_to.ensures.ok)
