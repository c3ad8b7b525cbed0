use Rattle.cx_text.proofs.Loops.{begun, turned, fewer, stopped, ended_at}
use Rattle.cx_iface.proofs.GroupLaws.{more_variables_short}
use Rattle.cx_iface.proofs.group.variables_after.Goals as goal

pub variables-init : goal.variables-init
variables-init c = begun

pub variables-preserved : goal.variables-preserved
variables-preserved c = turned more_variables_short c.variables.invariant c.at_comma_or_word.ensures
    c.variables-test.true c.in_ok-more_variables.ensures

pub variables-smaller : goal.variables-smaller
variables-smaller c = fewer more_variables_short c.in_ok-more_variables.ensures

pub returns-in_err-more_variables : goal.returns-in_err-more_variables
returns-in_err-more_variables c =
    stopped _ _ _ _ more_variables_short c.variables.invariant c.at_comma_or_word.ensures
    c.variables-test.true c.in_err-more_variables.ensures c.from_residual.ensures.1

pub returns : goal.returns
returns c = ended_at more_variables_short c.variables.invariant c.at_comma_or_word.ensures
    c.variables-test.false
