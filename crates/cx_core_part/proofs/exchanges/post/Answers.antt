use Rattle.cx_ghost.proofs.PostLaws.{on_ok}
use Rattle.cx_core_part.proofs.ExchangeLaws.{posts}
use Rattle.cx_core_part.proofs.exchanges.post.Goals as goal

pub returns-clause-sent : goal.returns-clause-sent
returns-clause-sent g c =
    on_ok c.post.result
    (λ adds r n same patch count.
    posts _ r c.args.k c.args.dir c.args.vars.now c.args.patch.now patch c.args.op n count
    c.args.cut.now same (g.W.Wire.queue c.args.wire.now) (g.W.Wire.queue c.post.new.wire) adds)
    c.post.ensures.sent
