use Rattle.cx_order_least.proofs.CandidateLaws.{above}
use Rattle.cx_order_least.proofs.candidates.Candidates.pop_first.Goals as goal

pub returns-clause-above : goal.returns-clause-above
returns-clause-above c =
    above c.pop_first.result c.pop_first.new.self.keys c.pop_first.ensures.all_above
