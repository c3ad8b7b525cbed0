use Rattle.std.proofs.Common.{◌≡◌, ◌∙◌, ◌<◌, ◌+◌, suc, max, arith, length, length-set, pos}
use Rattle.cx_rule.proofs.CountedLaws.{counted_more}
use Rattle.cx_rule.proofs.levels.Level.set_zeros.Goals as goal

pub places-preserved : goal.places-preserved
places-preserved c =
    let e : c.places.at + 1 ≡ suc c.places.at = omega arith in
    let below : c.places.at < length c.places.self =
    omega (arith, c.places-test.true, c.requires, c.places.invariant.1) in (
      rw (e, c.set.ensures) (counted_more c.places.at c.places.self below ∙ c.places.invariant.0),
      rw c.set.ensures (length-set c.places.self c.places.at (pos 0) ∙ c.places.invariant.1),
      omega (arith, c.places-test.true),
    )

pub returns-clause-value : goal.returns-clause-value
returns-clause-value c =
    let e : max c.args.from c.args.to ≡ c.places.at =
    omega (arith, c.places.auto.at, c.places-test.false, c.places.invariant.2) in
    rw e c.places.invariant.0
