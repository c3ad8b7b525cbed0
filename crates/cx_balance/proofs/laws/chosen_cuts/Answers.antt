use Rattle.cx_balance.proofs.CutLaws.{cuts_again}
use Rattle.cx_balance.proofs.laws.chosen_cuts.Goals as goal

pub returns : goal.returns
returns c = cuts_again
