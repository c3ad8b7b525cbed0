use Rattle.std.proofs.Common.{ap, arith, w64}
use Rattle.std.proofs.lemmas.Int.{to_z-of_z}
use Rattle.cx_rule.specs.States.{with_level, level_of}
use Rattle.cx_rule.specs.Patches.{with_numbers}
use Rattle.cx_rule.proofs.NumberLaws.{stored_scalar, scalar_count, scalar_size, one_set}
use Rattle.cx_rule.proofs.part.Part.set_scalar.Goals as goal

pub set_at-requires-clause-level : goal.set_at-requires-clause-level
set_at-requires-clause-level c = stored_scalar _ c.args.v c.requires

pub set_at-requires-clause-at : goal.set_at-requires-clause-at
set_at-requires-clause-at c = let n = scalar_count _ c.args.v c.requires in omega (arith, n)

pub returns : goal.returns
returns c =
    rw (c.set_at.ensures, to_z-of_z w64 c.args.value c.ranges.value)
    (ap (λ ns. with_numbers c.args.self.now (with_level c.args.self.now.numbers c.args.v 0 ns))
    (one_set (level_of c.args.self.now.numbers c.args.v 0) c.args.value
    (scalar_size c.args.self.now c.args.v c.local.ensures.patch c.requires)))
