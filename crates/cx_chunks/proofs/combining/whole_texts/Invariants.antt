use Rattle.std.proofs.Common.{◌≡◌, map, take}
use Rattle.cx_plan.specs.Lookups.{variable}
use Rattle.cx_plan.specs.Setups.{setup_of}
use Rattle.cx_chunks.specs.Combining.{whole_text}
use Rattle.cx_chunks.proofs.combining.whole_texts.Given as goal

abbrev pub invariant-outputs : goal.invariant-outputs
invariant-outputs l =
    l.texts
    ≡ map (λ v. whole_text (setup_of l.job) l.cut l.chunks (variable (setup_of l.job) v))
    (take l.v-index l.job.out_vars)
