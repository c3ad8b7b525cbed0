use Rattle.std.proofs.Common.{◌-◌, ◌∙◌, length, take, ap}
use Rattle.cx_order_least.proofs.LinkLaws.{set-rows}
use Rattle.cx_order_least.proofs.links.Links.pop.Goals as goal

pub returns : goal.returns
returns c =
    let numbers = c.index_mut.result.now in
    set-rows (λ numbers. numbers.items)
    c.self.inside.rows.items c.args.self.now c.args.at numbers c.pop.new.self
    (λ xs. take (length xs - 1) xs) c.self.view_is c.requires c.index_mut.ensures.value
    (c.pop.ensures.rest ∙ ap (λ n. take (n - 1) numbers.items) numbers.ok.0)
