use Rattle.std.proofs.Common.{◌≡◌, ◌-◌, ◌^◌, min, length, take}
use Rattle.std.specs.List.{flat_map}
use Rattle.cx_plan.specs.Lookups.{variable}
use Rattle.cx_plan.specs.Setups.{setup_of}
use Rattle.cx_chunks.specs.Combining.{iterations_of}
use Rattle.cx_run_chunks.proofs.pieces.record_count.Given as goal

abbrev pub invariant-outputs : goal.invariant-outputs
invariant-outputs l = l.count
    ≡ min (length (flat_map (λ v. iterations_of l.fn.chunks (variable (setup_of l.fn.job) v).full)
    (take l.v-index l.fn.job.out_vars))) (2 ^ 64 - 1)
