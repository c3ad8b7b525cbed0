use Rattle.std.proofs.Common.{◌≡◌, ℕ, ◌<◌, length, false, get_or}
use Rattle.cx_core_events.specs.Events.{can_go}
use Rattle.cx_core_events.proofs.flags.set_flags.Given as goal

abbrev pub invariant-parts : goal.invariant-parts
invariant-parts l = record {
  size : length l.flags.items ≡ length l.standings.parts;
  done : (j : ℕ) → j < l.k → get_or l.flags.items j false ≡ can_go l.standings j;
}
