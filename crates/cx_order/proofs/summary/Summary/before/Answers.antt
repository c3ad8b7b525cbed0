-- Sizes are joined, and the first fault counts.
use Rattle.cx_order.proofs.SummaryLaws.{entry-before, option_or-else}
use Rattle.cx_order.proofs.summary.Summary.before.Goals as goal

pub returns : goal.returns
returns c = λ w path e inner inside behind f r.
    entry-before w path inner e inside behind c.args.self c.args.rest _ c.before-2.ensures
    (option_or-else c.args.self.fault c.args.rest.fault _ c.or.ensures) f r
