-- what the bins that were passed call is marked
use Rattle.std.specs.List.{flat_map, range_with_len}
use Rattle.cx_plan.specs.Setups.{setup_of}
use Rattle.cx_plan.specs.Lookups.{bin, called}
use Rattle.cx_region.specs.Marks.{Marks}
use Rattle.cx_region.proofs.called.mark_bins.Given as goal

abbrev pub invariant-loop-number : goal.invariant-loop-number
invariant-loop-number l =
    Marks (flat_map (λ b. called (bin (setup_of l.job) b)) (range_with_len 0 l.number))
    l.fn.marks l.marks
