use Rattle.std.proofs.Common.{◌≡◌, ◌++◌, map, drop}
use Rattle.std.specs.Prelude.{filter}
use Rattle.cx_job.specs.Outputs.{is_name}
use Rattle.cx_job.proofs.outputs.names_in.Given as goal

abbrev pub invariant-parts : goal.invariant-parts
invariant-parts l = l.names ++ filter is_name (map (λ x. x.now) (drop l.part-index l.parts))
    ≡ filter is_name (map (λ x. x.now) l.parts)
