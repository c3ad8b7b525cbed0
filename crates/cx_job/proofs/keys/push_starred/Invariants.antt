use Rattle.std.proofs.Common.{◌≡◌, ◌++◌, take}
use Rattle.std.specs.List.{flat_map}
use Rattle.cx_job.specs.Keys.{lines_if_starred}
use Rattle.cx_job.proofs.keys.push_starred.Given as goal

abbrev pub invariant-params : goal.invariant-params
invariant-params l = l.text
    ≡ l.fn.text ++ flat_map (lines_if_starred l.values) (take l.param-index l.params)
