use Rattle.std.proofs.Common.{◌≡◌, ◌≤◌, ◌+◌, length, drop}
use Rattle.cx_core_events.specs.Events.{places_of}
use Rattle.cx_core_events.proofs.flags.count_flags.Given as goal

abbrev pub invariant-flags : goal.invariant-flags
invariant-flags l = record {
  counted : l.count + length (places_of l.flag-index (drop l.flag-index l.flags))
      ≡ length (places_of 0 l.flags);
  few : l.count ≤ l.flag-index;
}
