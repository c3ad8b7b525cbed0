use Rattle.std.proofs.Common.{◌≡◌, ◌-◌, length}
use Rattle.std.specs.List.{zip}
use Rattle.cx_chk.specs.Reading.{named_at, some_at}
use Rattle.cx_chk.proofs.Loop.{with_front}
use Rattle.cx_chk.proofs.reading.named_of.Given as goal

abbrev pub invariant-each : goal.invariant-each
invariant-each l = record {
  read : with_front (zip l.names l.lengths) (some_at named_at (l.count - l.counter) l.rest)
      ≡ some_at named_at l.count l.bytes;
  many : length l.names ≡ length l.lengths;
}
