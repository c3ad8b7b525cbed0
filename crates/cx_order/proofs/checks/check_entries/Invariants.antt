-- the first fault is one of the bins from one on
use Rattle.std.proofs.Common.{◌≡◌, drop}
use Rattle.cx_order.proofs.CheckLaws.{first_told}
use Rattle.cx_order.proofs.checks.check_entries.Given as goal

abbrev pub invariant-loop-bin : goal.invariant-loop-bin
invariant-loop-bin l = first_told l.bin (drop l.bin l.bins) ≡ first_told 0 l.bins
