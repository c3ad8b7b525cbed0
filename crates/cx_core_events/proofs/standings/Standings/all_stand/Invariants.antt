use Rattle.std.proofs.Common.{◌≡◌, not}
use Rattle.cx_core_events.specs.Events.{all_below, goes_on}
use Rattle.cx_core_events.proofs.standings.Standings.all_stand.Given as goal

abbrev pub invariant-parts : goal.invariant-parts
invariant-parts l = l.stand ≡ all_below (λ k. not (goes_on l.self k)) l.k
