use Rattle.std.proofs.Common.{◌≡◌, map, take}
use Rattle.cx_plan.specs.declared.variable.VarId.{VarId}
use Rattle.cx_plan.specs.Setups.{setup_of}
use Rattle.cx_plan.specs.Lookups.{variable}
use Rattle.cx_outputs.proofs.names.full_names.Given as goal

abbrev pub invariant-vars : goal.invariant-vars
invariant-vars l = l.names
    ≡ map (λ (v : VarId). (variable (setup_of l.fn.job) v).full) (take l.v-index l.fn.job.out_vars)
