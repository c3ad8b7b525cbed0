use Rattle.std.proofs.Common.{◌≡◌, ◌-◌}
use Rattle.cx_ascii_read.specs.Reading.{with_front, row_at}
use Rattle.cx_ascii_read.proofs.values.push_row.Given as goal

abbrev pub invariant-each : goal.invariant-each
invariant-each l = with_front l.values.items (row_at (l.more - l.counter) l.rest)
    ≡ with_front l.fn.values.items (row_at l.more l.bytes)
