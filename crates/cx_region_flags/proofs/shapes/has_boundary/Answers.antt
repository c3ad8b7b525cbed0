use Rattle.cx_region_flags.proofs.BoundaryLaws.{boundary_told}
use Rattle.cx_region_flags.proofs.shapes.has_boundary.Goals as goal

pub returns : goal.returns
returns c = boundary_told c.args.shape.now c.has_faced_direction.result c.requires
    c.has_faced_direction.ensures
