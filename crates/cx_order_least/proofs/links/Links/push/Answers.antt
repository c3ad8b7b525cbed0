use Rattle.std.proofs.Common.{◌∷◌, [], ◌++◌}
use Rattle.cx_order_least.proofs.LinkLaws.{set-rows}
use Rattle.cx_order_least.proofs.links.Links.push.Goals as goal

pub returns : goal.returns
returns c =
    set-rows (λ numbers. numbers.items)
    c.self.inside.rows.items c.args.self.now c.args.at c.index_mut.result.now c.push.new.self
    (λ xs. xs ++ c.args.number ∷ [])
    c.self.view_is c.requires c.index_mut.ensures.value c.in_ok-push.ensures.items
