use Rattle.std.proofs.Common.{refl}
use Rattle.cx_thorn_ca.proofs.LaneLaws.{sums}
use Rattle.cx_thorn_ca.proofs.lanes.plus.Goals as goal

pub returns : goal.returns
returns c = sums _ c.args.a c.args.b (λ x y. refl) c.requires.a c.requires.b
