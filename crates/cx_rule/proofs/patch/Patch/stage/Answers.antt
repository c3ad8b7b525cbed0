use Rattle.std.proofs.Common.{refl, w64}
use Rattle.std.proofs.lemmas.Int.{to_z-of_z}
use Rattle.cx_rule.proofs.BufferLaws.{buffer_size, buffers_kept, buffer_sizes_kept}
use Rattle.cx_rule.proofs.patch.Patch.stage.Goals as goal

pub set-requires-clause-at : goal.set-requires-clause-at
set-requires-clause-at c =
    let h = rw (← c.self.view_is) at c.requires.write in
    let b = rw c.local.ensures.value at c.index_of-at.ensures.below in
    rw (buffer_size _ _ _ c.self.invariant c.args.k h) b

pub invariant_of-self : goal.invariant_of-self
invariant_of-self c =
    rw c.set.ensures (buffers_kept _ _ _ c.self.invariant _
    (buffer_sizes_kept _ c.args.k c.index_of-at.result _))

pub returns : goal.returns
returns c =
    rw (
      ← c.self.view_is,
      c.set.ensures,
      to_z-of_z w64 c.args.value c.ranges.value,
      c.index_of-at.ensures.value,
      c.local.ensures.value,
    ) refl
