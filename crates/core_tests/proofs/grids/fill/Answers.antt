use Rattle.cx_field.proofs.FaceLaws.{local_near}
use Rattle.core_tests.proofs.grids.fill.Goals as goal

pub fill_point-requires-clause-near : goal.fill_point-requires-clause-near
fill_point-requires-clause-near c =
    let inside = rw c.local.ensures.value at c.point_at.ensures.inside in
    rw c.shape.ensures.value
    (local_near c.args.patch.now.shape c.args.patch.now.owned c.args.patch.now.local
    c.shape.ensures.patch.part _ inside)
