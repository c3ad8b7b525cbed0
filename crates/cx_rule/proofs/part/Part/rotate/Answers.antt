use Rattle.std.proofs.Common.{refl}
use Rattle.cx_rule.proofs.NumberLaws.{rotated_patch}
use Rattle.cx_rule.proofs.part.Part.rotate.Goals as goal

pub invariant_of-self : goal.invariant_of-self
invariant_of-self c = rw c.rotate_all.ensures (rotated_patch _ c.self.invariant)

pub returns : goal.returns
returns c = rw (← c.self.view_is, c.rotate_all.ensures) refl
