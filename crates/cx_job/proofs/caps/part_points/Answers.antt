use Rattle.std.proofs.Common.{◌∙◌, ap}
use Rattle.cx_grid.specs.Boxes.{point_count}
use Rattle.cx_job.proofs.CapLaws.{held_part}
use Rattle.cx_job.proofs.caps.part_points.Goals as goal
use Rattle.cx_text.specs.Numbers.{in_64_bits}

pub returns : goal.returns
returns c =
    c.point_count.ensures
    ∙ ap (λ b. in_64_bits (point_count b)) c.local.ensures
    ∙ held_part c.args.cut.now c.args.part c.requires.whole c.requires.part
