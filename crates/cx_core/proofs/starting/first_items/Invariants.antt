use Rattle.std.proofs.Common.{◌≡◌, replicate}
use Rattle.cx_plan.specs.Setups.{setup_of}
use Rattle.cx_core_part.specs.Copies.{copies_at}
use Rattle.cx_core.proofs.starting.first_items.Given as goal

abbrev pub invariant-parts : goal.invariant-parts
invariant-parts l = l.items.items ≡ replicate l.counter (copies_at (setup_of l.job) l.iteration)
