use Rattle.cx_thorn_ca.proofs.LaneLaws.{has_living_bits}
use Rattle.cx_thorn_ca.proofs.lanes.living_bits.Goals as goal

pub returns : goal.returns
returns c = has_living_bits c.living.result c.args.cells.now c.args.i c.living.ensures
