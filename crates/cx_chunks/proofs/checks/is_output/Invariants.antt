use Rattle.std.proofs.Common.{◌≡◌, drop}
use Rattle.std.specs.List.{list_any}
use Rattle.cx_plan.specs.Lookups.{variable}
use Rattle.cx_plan.specs.Setups.{setup_of}
use Rattle.cx_chunks.specs.Combining.{is_output, is_output_of}
use Rattle.cx_chunks.proofs.checks.is_output.Given as goal

abbrev pub invariant-outputs : goal.invariant-outputs
invariant-outputs l =
    list_any (λ v. is_output_of l.scalar l.full (variable (setup_of l.job) v))
    (drop l.v-index l.job.out_vars)
    ≡ is_output (setup_of l.job) l.scalar l.full
