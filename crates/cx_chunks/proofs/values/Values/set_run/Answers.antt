use Rattle.std.proofs.Common.{rules, ◌≡◌, ◌∙◌, ◌-◌, ap, ℤ, List, length, take, drop}
use Rattle.cx_chunks.specs.Rows.{values_from}
use Rattle.cx_chunks.proofs.SetLaws.{both_set}
use Rattle.cx_chunks.proofs.values.Values.set_run.Goals as goal

pub returns : goal.returns
returns c =
    let from = c.args.from in
    let n = length c.args.row.now in
    let small = c.self.inside.small.items in
    let part = c.run-small.result.now in
    let is : part ≡ take n (drop from small) = search rules in
    let after : c.saturating_sub-after.result ≡ from - length small = search rules in
    both_set small c.self.inside.larger from c.saturating_sub-after.result n
    (n - length part) part c.set_widened.new.row c.set_run.new.row is c.set_widened.ensures after
    (search rules) (search rules)
    ∙ ap (λ (l : List ℤ). values_from l from n) c.self.view_is
