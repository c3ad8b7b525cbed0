-- the sizes of the bins from one on
use Rattle.std.proofs.Common.{drop}
use Rattle.cx_order.proofs.CheckLaws.{AreBinSizes}
use Rattle.cx_order.proofs.checks.plan_sizes.Given as goal

abbrev pub invariant-loop-at : goal.invariant-loop-at
invariant-loop-at l = AreBinSizes (drop l.at l.bins) l.sizes
