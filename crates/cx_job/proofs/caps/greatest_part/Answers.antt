use Rattle.std.proofs.Common.{◌≡◌, ◌∙◌, ap, rules}
use Rattle.std.specs.Prelude.{max}
use Rattle.cx_job.specs.Caps.{part_points}
use Rattle.cx_job.proofs.CapLaws.{greatest_more}
use Rattle.cx_job.proofs.caps.greatest_part.Goals as goal

pub parts-preserved : goal.parts-preserved
parts-preserved c =
    let larger : c.max-most.result ≡ max c.parts.most c.part_points.result = search rules in
    larger
    ∙ ap (max c.parts.most) c.part_points.ensures
    ∙ greatest_more (part_points c.args.cut.now) c.parts.part c.parts.most c.parts.invariant
