use Rattle.law_restarts.proofs.SightLaws.{finds_same}
use Rattle.law_restarts.proofs.chains.thorns_see_the_same.Goals as goal

pub returns : goal.returns
returns c = λ thorns one other none same. finds_same thorns none one other same
