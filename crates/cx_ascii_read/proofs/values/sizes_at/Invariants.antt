use Rattle.std.proofs.Common.{◌≡◌, ◌-◌}
use Rattle.cx_ascii_read.specs.Reading.{with_front, sizes_at}
use Rattle.cx_ascii_read.proofs.values.sizes_at.Given as goal

abbrev pub invariant-each : goal.invariant-each
invariant-each l = with_front l.sizes (sizes_at (3 - l.counter) l.rest) ≡ sizes_at 3 l.bytes
