use Rattle.std.proofs.Common.{refl}
use Rattle.keep_tests.proofs.saves.checkpoint.Goals as goal

pub returns : goal.returns
returns c =
    rw (
      c.in_ok-key.ensures,
      c.in_ok-names.ensures,
      c.in_ok-lengths.ensures,
      c.in_ok-scalars.ensures,
      c.in_ok-levels.ensures,
    ) refl
