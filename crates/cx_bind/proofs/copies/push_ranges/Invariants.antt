use Rattle.std.proofs.Common.{◌≡◌, ◌++◌, take}
use Rattle.cx_bind.proofs.copies.push_ranges.Given as goal

abbrev pub invariant-others : goal.invariant-others
invariant-others l = l.ranges ≡ l.fn.ranges ++ take l.other-index l.others
