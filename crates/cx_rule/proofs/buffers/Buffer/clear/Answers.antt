use Rattle.cx_rule.proofs.CountedLaws.{counted_none}
use Rattle.cx_rule.proofs.buffers.Buffer.clear.Goals as goal

pub returns : goal.returns
returns c = rw (← c.self.view_is) (counted_none c.self.inside.end c.self.inside.numbers)
