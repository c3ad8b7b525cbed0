use Rattle.cx_wire.specs.Messages.{IsCounted}
use Rattle.cx_wire.proofs.Tables.{all_rest}
use Rattle.cx_wire.proofs.queue.Queue.take.Goals as goal

pub invariant_of-self : goal.invariant_of-self
invariant_of-self c = all_rest IsCounted _ _ _ (rw c.in-Some.is at c.pop_front.ensures.items)
    c.self.invariant
