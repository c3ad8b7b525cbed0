use Rattle.cx_values.proofs.Along.{map_begun}
use Rattle.cx_job_values.specs.Stored.{stored_info}
use Rattle.cx_job_values.proofs.stored.stored_infos.Goals as goal

pub vars-preserved : goal.vars-preserved
vars-preserved c =
    map_begun c.as_slice-vars.result.now c.vars.number c.index-vars-number.result c.vars-test.true
    c.index-vars-number.is (stored_info c.as_slice-storage.result.now)
    c.vars.invariant c.in_ok-stored_info.ensures c.in_ok-push.ensures.ok
