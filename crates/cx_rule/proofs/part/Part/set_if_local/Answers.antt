use Rattle.std.proofs.Common.{inl, inr, refl, w64}
use Rattle.std.proofs.lemmas.Int.{to_z-of_z}
use Rattle.cx_rule.proofs.FillLaws.{never}
use Rattle.cx_rule.proofs.part.Part.set_if_local.Goals as goal

pub returns-then-contains-clause-value : goal.returns-then-contains-clause-value
returns-then-contains-clause-value c =
    inl (
      rw c.local.ensures.value at (c.contains.ensures.inside.0 c.if-contains.true),
      rw (c.set.ensures, to_z-of_z w64 c.args.value c.ranges.value) refl,
    )

pub returns-else-contains-clause-value : goal.returns-else-contains-clause-value
returns-else-contains-clause-value c =
    inr (
      λ i. never (c.contains.ensures.inside.1 (rw c.local.ensures.value i)) c.if-contains.false,
      refl,
    )
