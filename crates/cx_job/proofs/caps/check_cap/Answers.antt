use Rattle.std.proofs.Common.{sym, subst}
use Rattle.cx_text.specs.Telling.{Tells}
use Rattle.cx_job.specs.declared.fault.JobFault.TheVariants as faults
use Rattle.cx_job.proofs.CapLaws.{its_object}
use Rattle.cx_job.proofs.caps.check_cap.Goals as goal

pub returns : goal.returns
returns c =
    subst (λ o. Tells faults.Memory o c.check_spec.result)
    (sym (its_object c.args.specs.now (λ s. s.now)
    c.args.points c.args.item.now c.index-specs-object.result c.if-object-specs.false
    c.index-specs-object.is))
    c.check_spec.ensures
