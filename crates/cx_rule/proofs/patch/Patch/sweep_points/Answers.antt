use Rattle.std.proofs.Common.{refl}
use Rattle.cx_rule.proofs.patch.Patch.sweep_points.Goals as goal

pub returns : goal.returns
returns c = rw (
  c.zone_of.ensures,
  c.shape.ensures.value,
  c.owned.ensures.value,
  c.local.ensures.value,
  ← c.self.view_is,
) refl
