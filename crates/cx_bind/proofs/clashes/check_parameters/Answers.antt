use Rattle.std.proofs.Common.{◌||◌, ◌&&◌}
use Rattle.std.proofs.lemmas.Result.{err_from_is_err_and}
use Rattle.std.specs.List.{list_any}
use Rattle.std.specs.Str.{bytes_eq}
use Rattle.std.proofs.Common.{take}
use Rattle.cx_bind.specs.declared.thorns.BindFault.TheVariants.{TwoParameters, Memory}
use Rattle.cx_bind.specs.Faults.{clash}
use Rattle.cx_bind.proofs.SetLaws.{parameter_name, parameter_found, one_name_more, one_global_more, again_on, again_told}
use Rattle.cx_bind.proofs.clashes.check_parameters.Goals as goal
use Rattle.cx_text.specs.Bytes.{folded}

pub returns-in_err-check_parameter : goal.returns-in_err-check_parameter
returns-in_err-check_parameter c =
    let p = err_from_is_err_and c.from_residual.result c.from_residual.ensures.1 in
    rw (p.1, p.2) (again_told clash (λ k. TwoParameters k.full)
    c.args.knowns.now c.knowns.known-index c.known-item.result c.knowns-test.true
    c.known-item.is (list_any (bytes_eq (folded c.known-item.result.full)) c.knowns.names
    || (c.known-item.result.global
    && list_any (bytes_eq (folded c.known-item.result.name)) c.knowns.globals))
    (parameter_found c.known-item.result (take c.knowns.known-index c.args.knowns.now)
    c.knowns.names c.knowns.globals c.knowns.invariant.names c.knowns.invariant.globals)
    c.knowns.invariant.again Memory c.in_err-check_parameter.field-0.0
    c.in_err-check_parameter.ensures.told)

pub knowns-preserved : goal.knowns-preserved
knowns-preserved c = record {
  names = one_name_more parameter_name c.args.knowns.now c.knowns.known-index c.known-item.result
      c.knowns-test.true c.known-item.is c.knowns.invariant.names
      c.in_ok-check_parameter.ensures.names;
  globals = one_global_more c.args.knowns.now c.knowns.known-index c.known-item.result
      c.knowns-test.true c.known-item.is c.knowns.invariant.globals
      c.in_ok-check_parameter.ensures.globals;
  again = again_on clash (λ k. TwoParameters k.full)
      c.args.knowns.now c.knowns.known-index c.known-item.result c.knowns-test.true c.known-item.is
      (list_any (bytes_eq (folded c.known-item.result.full)) c.knowns.names
      || (c.known-item.result.global
      && list_any (bytes_eq (folded c.known-item.result.name)) c.knowns.globals))
      (parameter_found c.known-item.result (take c.knowns.known-index c.args.knowns.now)
      c.knowns.names c.knowns.globals c.knowns.invariant.names c.knowns.invariant.globals)
      c.knowns.invariant.again c.in_ok-check_parameter.ensures.told;
}
