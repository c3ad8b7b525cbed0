use Rattle.cx_job.proofs.ReadyLaws.{kept_one}
use Rattle.cx_job.proofs.making.specs_of.Goals as goal

pub routines-preserved : goal.routines-preserved
routines-preserved g c =
    kept_one (λ s. s.now) (λ r. (goal.Routine-dyn g (r.vtable, r.value)).spec_of r.value)
    c.routines.specs.items c.push.new.self.items c.said_by.result c.args.routines.now
    c.routines.routine-index c.routine-item.result
    c.routines-test.true c.routine-item.is c.said_by.ensures c.routines.invariant
    c.in_ok-push.ensures.items
