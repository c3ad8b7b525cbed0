use Rattle.std.proofs.Common.{◌≡◌, ◌++◌, Some}
use Rattle.std.specs.List.{flat_map}
use Rattle.cx_job.specs.Keys.{parameter_line}
use Rattle.cx_job.proofs.keys.push_elements.Given as goal
use Rattle.cx_bind.specs.Variables.{copies}

abbrev pub invariant-elements : goal.invariant-elements
invariant-elements l = l.text
    ≡ l.fn.text ++ flat_map (parameter_line l.values l.param) (copies (Some l.k))
