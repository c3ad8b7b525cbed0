use Rattle.std.proofs.Common.{◌∙◌, ◌/◌, ap}
use Rattle.cx_grid.specs.Boxes.{point_count}
use Rattle.cx_balance.proofs.PlaneSums.{counts_are}
use Rattle.cx_balance.proofs.weighing.counted_planes.Goals as goal

pub returns : goal.returns
returns c =
    counts_are c.args.shape.now c.requires.shape c.args.dir c.along-n.result
    (c.count.result / c.along-n.result) c.new.result c.requires.direction c.along-n.ensures
    (ap (λ n. n / c.along-n.result) (c.count.ensures ∙ ap point_count c.whole.ensures.value))
    (c.new.ensures ∙ c.in_ok-vec.ensures.items_if_clones_equal (λ y same. same))
