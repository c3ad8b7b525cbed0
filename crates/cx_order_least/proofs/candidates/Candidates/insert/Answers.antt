use Rattle.std.proofs.Common.{◌∙◌, ap, ◌||◌, eqb}
use Rattle.cx_order_least.specs.Links.{has}
use Rattle.cx_order_least.proofs.CandidateLaws.{has-insert_key}
use Rattle.cx_order_least.proofs.candidates.Candidates.insert.Goals as goal

pub returns : goal.returns
returns c = λ k. ap (λ keys. has keys k) c.in_ok-insert.ensures.keys
    ∙ has-insert_key c.self.inside.numbers.keys c.args.number k
    ∙ ap (λ keys. has keys k || eqb c.args.number k) c.self.view_is
