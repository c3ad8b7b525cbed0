use Rattle.cx_values.proofs.Along.{flat_step}
use Rattle.cx_job.specs.Keys.{variable_line}
use Rattle.cx_job.proofs.keys.push_variables.Goals as goal

pub vars-preserved : goal.vars-preserved
vars-preserved c =
    flat_step c.args.vars.now c.vars.number c.index-vars-number.result c.vars-test.true
    c.index-vars-number.is variable_line c.args.text.now c.vars.invariant
    c.in_ok-push_variable.ensures
