use Rattle.std.proofs.Common.{◌≡◌}
use Rattle.std.specs.Prelude.{option_copied}
use Rattle.cx_keep.specs.Agreement.{first_apart, lines_from, left_length, lines_to}
use Rattle.cx_keep.proofs.agreement.first_apart.Given as goal

abbrev pub invariant-same : goal.invariant-same
invariant-same l = record {
  same : first_apart (lines_from l.c (option_copied l.left.0))
      (lines_from l.c (option_copied l.left.1))
      ≡ first_apart (lines_to l.c l.a) (lines_to l.c l.b);
}

abbrev pub decreases-same : goal.decreases-same
decreases-same l = left_length (option_copied l.left.0)
