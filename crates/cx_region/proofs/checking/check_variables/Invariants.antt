-- each flag of the variables before this number is always met
use Rattle.std.proofs.Common.{ℕ, ◌<◌}
use Rattle.cx_plan.specs.declared.flag.Flag.{Flag}
use Rattle.cx_plan.specs.Setups.{setup_of}
use Rattle.cx_region.specs.OneFlag.{IsAlwaysMet}
use Rattle.cx_region.proofs.ActLaws.{flag_at}
use Rattle.cx_region.proofs.checking.check_variables.Given as goal

abbrev pub invariant-numbers : goal.invariant-numbers
invariant-numbers l = (v : ℕ) (f : Flag) → v < l.number → IsAlwaysMet (setup_of l.job) (flag_at v f)
