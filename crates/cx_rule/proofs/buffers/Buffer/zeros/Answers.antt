use Rattle.cx_rule.proofs.CountedLaws.{counted_new}
use Rattle.cx_rule.proofs.buffers.Buffer.zeros.Goals as goal

pub returns : goal.returns
returns c = rw c.in_ok-zeros.ensures (counted_new c.args.count)
