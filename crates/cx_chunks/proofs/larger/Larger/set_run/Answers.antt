use Rattle.std.proofs.Common.{rules, ◌≡◌, ◌∙◌, ◌-◌, ap, ℤ, List, length, take, drop}
use Rattle.cx_chunks.specs.Rows.{values_from}
use Rattle.cx_chunks.proofs.SetLaws.{both_set}
use Rattle.cx_chunks.proofs.larger.Larger.set_run.Goals as goal

pub returns : goal.returns
returns c =
    let from = c.args.from in
    let n = length c.args.row.now in
    let narrow = c.self.inside.narrow.items in
    let part = c.run-narrow.result.now in
    let is : part ≡ take n (drop from narrow) = search rules in
    let after : c.saturating_sub-after.result ≡ from - length narrow = search rules in
    both_set narrow c.self.inside.wide.items from c.saturating_sub-after.result n
    (n - length part) part c.set_widened.new.row c.set_row.new.row is c.set_widened.ensures after
    (search rules) (search rules)
    ∙ ap (λ (l : List ℤ). values_from l from n) c.self.view_is
