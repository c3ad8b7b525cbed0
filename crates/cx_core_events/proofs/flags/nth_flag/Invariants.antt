use Rattle.std.proofs.Common.{◌≡◌, drop}
use Rattle.std.specs.Prelude.{slice_get}
use Rattle.cx_core_events.specs.Events.{places_of}
use Rattle.cx_core_events.proofs.flags.nth_flag.Given as goal

abbrev pub invariant-flags : goal.invariant-flags
invariant-flags l = slice_get (places_of l.place (drop l.place l.flags)) l.left
    ≡ slice_get (places_of 0 l.flags) l.number
