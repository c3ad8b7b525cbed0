use Rattle.cx_field.proofs.FaceLaws.{local_near}
use Rattle.core_tests.proofs.grids.is_true.Goals as goal

pub number-requires-clause-near : goal.number-requires-clause-near
number-requires-clause-near c =
    let inside = rw c.local-local.ensures.value at c.point_at-p.ensures.inside in
    rw c.shape-shape.ensures.value
    (local_near c.args.patch.now.shape c.args.patch.now.owned c.args.patch.now.local
    c.shape-shape.ensures.patch.part _ inside)
