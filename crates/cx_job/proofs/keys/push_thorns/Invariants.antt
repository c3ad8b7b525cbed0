use Rattle.std.proofs.Common.{◌≡◌, ◌++◌, take}
use Rattle.std.specs.List.{flat_map}
use Rattle.cx_job.specs.Keys.{thorn_line}
use Rattle.cx_job.proofs.keys.push_thorns.Given as goal

abbrev pub invariant-thorns : goal.invariant-thorns
invariant-thorns l = l.text ≡ l.fn.text ++ flat_map thorn_line (take l.thorn-index l.thorns)
