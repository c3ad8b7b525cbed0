use Rattle.std.proofs.Common.{◌≡◌, ◌∙◌, ap, ◌+◌, rules}
use Rattle.cx_plan.specs.Whole.{grid_levels}
use Rattle.cx_job.specs.LocalCells.{greatest, items_run}
use Rattle.cx_job.proofs.LocalCellLaws.{held_first, all_held}
use Rattle.cx_job.proofs.cells.local_cells.Goals as goal
use Rattle.cx_rule.specs.Patches.{write_count, value_count}
use Rattle.cx_text.specs.Numbers.{in_64_bits}

pub returns : goal.returns
returns c =
    let job = c.args.job.now in
    let items : c.first_items-items.result.now ≡ items_run job = search rules in
    let levels : c.grid_levels.result ≡ in_64_bits (grid_levels job.vars) = search rules in
    let writes : c.most_writes.result ≡ greatest write_count (items_run job) =
    c.most_writes.ensures ∙ ap (greatest write_count) items in
    let each : c.saturating_add-each.result
    ≡ in_64_bits (grid_levels job.vars + greatest write_count (items_run job)) =
    c.saturating_add-each.ensures ∙ ap (λ n. in_64_bits (n + c.most_writes.result)) levels
    ∙ held_first (grid_levels job.vars) c.most_writes.result
    ∙ ap (λ n. in_64_bits (grid_levels job.vars + n)) writes in
    let window = c.greatest_window.ensures
    ∙ ap (λ xs. in_64_bits (greatest (value_count job.shape.dims) xs)) items in
    c.cells_by.ensures ∙ all_held _ _ _ _ _ _ c.requires.cut each window
