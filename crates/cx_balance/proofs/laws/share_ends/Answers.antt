use Rattle.cx_balance.proofs.ChooseLaws.{share_end_is}
use Rattle.cx_balance.proofs.laws.share_ends.Goals as goal

pub returns : goal.returns
returns c = share_end_is
