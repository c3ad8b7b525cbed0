use Rattle.std.proofs.Common.{◌≡◌, map}
use Rattle.cx_job_files.proofs.configuring.with_files.Given as goal

abbrev pub invariant-files : goal.invariant-files
invariant-files l = (l.thorns ≡ map (λ t. t.thorn) l.yielded)
    × (l.schedules ≡ map (λ t. t.schedule) l.yielded)
