use Rattle.std.proofs.Common.{◌≡◌, ◌++◌, take}
use Rattle.cx_job.specs.Keys.{step_lines}
use Rattle.cx_job.proofs.keys.push_steps.Given as goal

abbrev pub invariant-steps : goal.invariant-steps
invariant-steps l = l.text ≡ l.fn.text ++ step_lines l.params (take l.step-index l.steps)
