-- Nodes are added, and the greater depth counts.
use Rattle.cx_order.proofs.SizeLaws.{before-sizes}
use Rattle.cx_order.proofs.sizes.Sizes.before.Goals as goal

pub returns : goal.returns
returns c = λ tree trees f r.
    before-sizes tree trees c.args.self c.args.rest _ c.saturating_add.ensures c.max.ensures f r
