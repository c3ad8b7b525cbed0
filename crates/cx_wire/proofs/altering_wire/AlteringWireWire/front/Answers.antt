use Rattle.std.proofs.Common.{◌∙◌, true, false, IsTrue}
use Rattle.cx_wire.specs.Memory.{queue_of}
use Rattle.cx_wire.proofs.Untold.{same_front}
use Rattle.cx_wire.proofs.altering_wire.AlteringWireWire.front.Goals as goal

pub returns : goal.returns
returns c =
    rw (← c.self.view_is)
    (c.front.ensures ∙ same_front (IsTrue true) (IsTrue false)
    (queue_of c.self.inside.wire c.args.from c.args.to))
