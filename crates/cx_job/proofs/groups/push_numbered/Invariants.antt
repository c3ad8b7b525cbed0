use Rattle.std.proofs.Common.{◌≡◌, ◌++◌, map}
use Rattle.std.specs.List.{range_with_len}
use Rattle.cx_job.proofs.groups.push_numbered.Given as goal

abbrev pub invariant-copies : goal.invariant-copies
invariant-copies l = l.places ≡ l.fn.places ++ map (λ k. l.at) (range_with_len 0 l.counter)
