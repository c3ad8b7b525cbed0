use Rattle.std.proofs.Common.{◌≡◌, ◌++◌, take}
use Rattle.cx_job.specs.Keys.{escaped}
use Rattle.cx_job.proofs.lines.push_escaped.Given as goal

abbrev pub invariant-bytes : goal.invariant-bytes
invariant-bytes l = l.text ≡ l.fn.text ++ escaped (take l.byte-index l.bytes)
