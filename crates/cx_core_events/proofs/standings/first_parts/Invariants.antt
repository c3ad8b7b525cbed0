use Rattle.std.proofs.Common.{◌≡◌}
use Rattle.std.specs.Prelude.{replicate}
use Rattle.cx_plan.specs.declared.job.Job.{Job}
use Rattle.cx_plan.specs.Setups.{setup_of}
use Rattle.cx_plan.specs.Whole.{IsWhole}
use Rattle.cx_flat.specs.Code.{code}
use Rattle.cx_core_events.specs.Steps.{standing_at, first_place}
use Rattle.cx_core_events.proofs.standings.first_parts.Given as goal

abbrev pub invariant-parts : goal.invariant-parts
invariant-parts l = (job : Job) → IsWhole job → l.ops ≡ code (setup_of job)
    → l.parts.items ≡ replicate l.counter (standing_at (first_place (setup_of job) l.from))
