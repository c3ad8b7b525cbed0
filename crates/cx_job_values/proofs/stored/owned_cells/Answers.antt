use Rattle.std.proofs.Common.{ap, ◌∙◌, ◌*◌, ◌-◌, ◌^◌, List}
use Rattle.cx_grid.specs.Boxes.{point_count}
use Rattle.cx_grid.specs.Grid.{whole}
use Rattle.cx_plan.specs.declared.variable.VarInfo.{VarInfo}
use Rattle.cx_plan.specs.Whole.{grid_levels}
use Rattle.cx_job_values.proofs.CellLaws.{product_held}
use Rattle.cx_job_values.proofs.stored.owned_cells.Goals as goal
use Rattle.cx_text.specs.Numbers.{in_64_bits}

pub returns : goal.returns
returns c =
    c.saturating_mul.ensures
    ∙ ap (λ p. in_64_bits (p * c.grid_levels.result)) c.point_count.ensures
    ∙ ap (λ l. in_64_bits (in_64_bits (point_count (whole c.args.shape.now)) * l))
    (c.grid_levels.ensures
    ∙ ap (λ (vs : List VarInfo). in_64_bits (grid_levels vs)) c.as_slice.ensures)
    ∙ product_held (point_count (whole c.args.shape.now)) (grid_levels c.args.vars.now) (2 ^ 64 - 1)
