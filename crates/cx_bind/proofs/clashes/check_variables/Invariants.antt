use Rattle.std.proofs.Common.{◌≡◌, take, drop, map}
use Rattle.std.specs.Option.{option_map}
use Rattle.cx_plan.specs.Lists.{first_again_behind}
use Rattle.cx_bind.specs.declared.thorns.BindFault.TheVariants.{TwoVariables}
use Rattle.cx_bind.specs.Faults.{is_same_variable, two_variables}
use Rattle.cx_bind.proofs.SetLaws.{variable_name}
use Rattle.cx_bind.proofs.clashes.check_variables.Given as goal

abbrev pub invariant-infos : goal.invariant-infos
invariant-infos l = record {
  names : l.names ≡ map variable_name (take l.info-index l.infos);
  again : option_map (λ v. TwoVariables v.full)
      (first_again_behind is_same_variable (take l.info-index l.infos) (drop l.info-index l.infos))
      ≡ two_variables l.infos;
}
