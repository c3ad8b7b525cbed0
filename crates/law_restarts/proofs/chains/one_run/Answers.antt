use Rattle.law_restarts.proofs.ChainLaws.{one_run}
use Rattle.law_restarts.proofs.chains.one_run.Goals as goal

pub returns : goal.returns
returns c = λ n name_a name_b specs held_a held_b a b made_a made_b chained steered.
    one_run n name_a name_b specs held_a held_b a b made_a made_b chained steered
