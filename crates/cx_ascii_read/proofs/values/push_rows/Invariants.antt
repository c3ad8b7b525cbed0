use Rattle.std.proofs.Common.{◌≡◌, ◌-◌}
use Rattle.cx_ascii_read.specs.Reading.{with_front, rows_at}
use Rattle.cx_ascii_read.proofs.values.push_rows.Given as goal

abbrev pub invariant-each : goal.invariant-each
invariant-each l = with_front l.values.items (rows_at l.more (l.count - l.counter) l.rest)
    ≡ with_front l.fn.values.items (rows_at l.more l.count l.bytes)
