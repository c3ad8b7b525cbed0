use Rattle.std.proofs.Common.{◌≡◌, ◌≤◌}
use Rattle.std.specs.Prelude.{option_copied}
use Rattle.cx_keep.specs.Agreement.{lines_from, left_length}
use Rattle.cx_keep.proofs.agreement.next_line.Given as goal

abbrev pub invariant-skip : goal.invariant-skip
invariant-skip l = record {
  same : lines_from l.c (option_copied l.left) ≡ lines_from l.c (option_copied l.lines);
  shrinks : left_length (option_copied l.left) ≤ left_length (option_copied l.lines);
}

abbrev pub decreases-skip : goal.decreases-skip
decreases-skip l = left_length (option_copied l.left)
