use Rattle.law_restarts.proofs.NamedLaws.{chained}
use Rattle.law_restarts.proofs.chains.full_names_chain.Goals as goal

pub returns : goal.returns
returns c = λ name_a name_b held_a held_b by_names. chained name_a name_b held_a held_b by_names
