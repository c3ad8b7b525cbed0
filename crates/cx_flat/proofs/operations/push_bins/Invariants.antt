-- the operations so far, and those of the bins that are left, are all
use Rattle.std.proofs.Common.{◌≡◌, ◌++◌, map, drop}
use Rattle.cx_plan.specs.Bins.{bin_number}
use Rattle.cx_plan.specs.Setups.{setup_of}
use Rattle.cx_flat.specs.Code.{bins_code}
use Rattle.cx_flat.proofs.operations.push_bins.Given as goal

abbrev pub invariant-bins : goal.invariant-bins
invariant-bins l =
    l.ops.items ++ bins_code (setup_of l.job) (map bin_number (drop l.bin-index l.bins))
    ≡ l.fn.ops.items ++ bins_code (setup_of l.job) (map bin_number l.bins)
