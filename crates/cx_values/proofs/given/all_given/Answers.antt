use Rattle.std.proofs.lemmas.Result.{err_from_is_err_and}
use Rattle.cx_bind.specs.NamePlaces.{place_of}
use Rattle.cx_values.specs.declared.fault.ValueFault.TheVariants.{Memory}
use Rattle.cx_values.specs.Assigned.{given_by}
use Rattle.cx_values.proofs.Along.{more_begun}
use Rattle.cx_values.proofs.GivenLaws.{fault_on, fault_told}
use Rattle.cx_values.proofs.given.all_given.Goals as goal

pub returns-in_err-one-clause-told : goal.returns-in_err-one-clause-told
returns-in_err-one-clause-told c =
    let p = err_from_is_err_and c.from_residual.result c.from_residual.ensures.1 in
    rw (p.1, p.2)
    (fault_told c.args.params.now (place_of c.args.names.now)
    c.args.dir.now c.args.settings.now c.settings.setting-index c.setting-item.result
    c.settings-test.true c.setting-item.is c.settings.given c.settings.invariant.given
    c.settings.invariant.left Memory c.in_err-one.field-0.0 c.in_err-one.ensures.told)

pub settings-preserved : goal.settings-preserved
settings-preserved c = record {
  given = more_begun c.args.settings.now c.settings.setting-index c.setting-item.result
      c.settings-test.true c.setting-item.is
      (given_by c.args.params.now (place_of c.args.names.now))
      c.settings.invariant.given c.in_ok-one.ensures.given c.in_ok-given.ensures;
  left = fault_on c.args.params.now (place_of c.args.names.now)
      c.args.dir.now c.args.settings.now c.settings.setting-index c.setting-item.result
      c.settings-test.true c.setting-item.is c.settings.given c.settings.invariant.given
      c.settings.invariant.left c.in_ok-one.ensures.told;
}
