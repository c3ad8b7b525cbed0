use Rattle.std.proofs.Common.{◌∙◌, ap, ◌*◌, ◌+◌}
use Rattle.cx_grid.specs.Boxes.{point_count}
use Rattle.cx_cut.specs.Cuts.{local}
use Rattle.cx_job.proofs.LocalCellLaws.{held_cells}
use Rattle.cx_job.proofs.cells.part_cells.Goals as goal
use Rattle.cx_text.specs.Numbers.{in_64_bits}

pub returns : goal.returns
returns c =
    c.saturating_add.ensures
    ∙ ap (λ n. in_64_bits (n + c.args.window)) c.saturating_mul.ensures
    ∙ ap (λ p. in_64_bits (in_64_bits (p * c.args.each) + c.args.window)) c.point_count.ensures
    ∙ ap (λ b. in_64_bits (in_64_bits (in_64_bits (point_count b) * c.args.each) + c.args.window))
    c.local.ensures
    ∙ held_cells (point_count (local c.args.cut.now c.args.part)) c.args.each c.args.window
