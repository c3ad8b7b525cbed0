use Rattle.std.proofs.Common.{◌≡◌, take}
use Rattle.cx_job.specs.LocalCells.{greatest}
use Rattle.cx_job.proofs.cells.greatest_window.Given as goal
use Rattle.cx_rule.specs.Patches.{value_count}
use Rattle.cx_text.specs.Numbers.{in_64_bits}

abbrev pub invariant-items : goal.invariant-items
invariant-items l = l.window
    ≡ in_64_bits (greatest (value_count l.dims) (take l.item-index l.items))
