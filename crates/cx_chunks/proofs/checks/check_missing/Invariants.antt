use Rattle.std.proofs.Common.{◌≡◌, drop}
use Rattle.cx_plan.specs.Lists.{first_of_each}
use Rattle.cx_plan.specs.Lookups.{variable}
use Rattle.cx_plan.specs.Setups.{setup_of}
use Rattle.cx_chunks.specs.Combining.{missing_of, missing}
use Rattle.cx_chunks.proofs.checks.check_missing.Given as goal

abbrev pub invariant-outputs : goal.invariant-outputs
invariant-outputs l =
    first_of_each (λ v. missing_of l.cut l.chunks (variable (setup_of l.job) v))
    (drop l.v-index l.job.out_vars)
    ≡ missing (setup_of l.job) l.cut l.chunks
