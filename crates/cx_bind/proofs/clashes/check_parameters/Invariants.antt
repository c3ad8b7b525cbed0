use Rattle.std.proofs.Common.{◌≡◌, take, drop, map}
use Rattle.std.specs.Option.{option_map}
use Rattle.cx_plan.specs.Lists.{first_again_behind}
use Rattle.cx_bind.specs.declared.thorns.BindFault.TheVariants.{TwoParameters}
use Rattle.cx_bind.specs.Faults.{clash, two_parameters}
use Rattle.cx_bind.proofs.SetLaws.{parameter_name, global_names}
use Rattle.cx_bind.proofs.clashes.check_parameters.Given as goal

abbrev pub invariant-knowns : goal.invariant-knowns
invariant-knowns l = record {
  names : l.names ≡ map parameter_name (take l.known-index l.knowns);
  globals : l.globals ≡ global_names (take l.known-index l.knowns);
  again : option_map (λ k. TwoParameters k.full)
      (first_again_behind clash (take l.known-index l.knowns) (drop l.known-index l.knowns))
      ≡ two_parameters l.knowns;
}
