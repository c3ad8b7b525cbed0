use Rattle.std.proofs.Common.{◌≡◌, ◌++◌, take}
use Rattle.cx_job.specs.Keys.{variable_lines}
use Rattle.cx_job.proofs.keys.push_variables.Given as goal

abbrev pub invariant-vars : goal.invariant-vars
invariant-vars l = l.text ≡ l.fn.text ++ variable_lines (take l.number l.vars)
