use Rattle.std.proofs.Common.{◌≡◌, map, take}
use Rattle.cx_rule.specs.Seen.{volumes}
use Rattle.cx_rule.specs.Sweeps.{reach_of}
use Rattle.cx_job.proofs.cells.window_size.Given as goal
use Rattle.cx_text.specs.Numbers.{in_64_bits}

abbrev pub invariant-reads : goal.invariant-reads
invariant-reads l = l.values
    ≡ in_64_bits (volumes l.dims (map reach_of (take l.read-index l.reads)))
