use Rattle.std.proofs.lemmas.Result.{err_from_is_err_and}
use Rattle.std.specs.List.{list_any}
use Rattle.std.specs.Str.{bytes_eq}
use Rattle.std.proofs.Common.{take}
use Rattle.cx_bind.specs.declared.thorns.BindFault.TheVariants.{TwoVariables, Memory}
use Rattle.cx_bind.specs.Faults.{is_same_variable}
use Rattle.cx_bind.proofs.SetLaws.{variable_name, variable_found, one_name_more, again_on, again_told}
use Rattle.cx_bind.proofs.clashes.check_variables.Goals as goal
use Rattle.cx_text.specs.Bytes.{folded}

pub returns-in_err-check_variable : goal.returns-in_err-check_variable
returns-in_err-check_variable c =
    let p = err_from_is_err_and c.from_residual.result c.from_residual.ensures.1 in
    rw (p.1, p.2) (again_told is_same_variable (λ v. TwoVariables v.full)
    c.args.infos.now c.infos.info-index c.info-item.result c.infos-test.true c.info-item.is
    (list_any (bytes_eq (folded c.info-item.result.full)) c.infos.names)
    (variable_found c.info-item.result (take c.infos.info-index c.args.infos.now)
    c.infos.names c.infos.invariant.names)
    c.infos.invariant.again Memory c.in_err-check_variable.field-0.0
    c.in_err-check_variable.ensures.told)

pub infos-preserved : goal.infos-preserved
infos-preserved c = record {
  names = one_name_more variable_name c.args.infos.now c.infos.info-index c.info-item.result
      c.infos-test.true c.info-item.is c.infos.invariant.names c.in_ok-check_variable.ensures.kept;
  again = again_on is_same_variable (λ v. TwoVariables v.full)
      c.args.infos.now c.infos.info-index c.info-item.result c.infos-test.true c.info-item.is
      (list_any (bytes_eq (folded c.info-item.result.full)) c.infos.names)
      (variable_found c.info-item.result (take c.infos.info-index c.args.infos.now)
      c.infos.names c.infos.invariant.names)
      c.infos.invariant.again c.in_ok-check_variable.ensures.told;
}
