use Rattle.std.proofs.Common.{◌≡◌, ◌++◌, take}
use Rattle.std.specs.List.{flat_map}
use Rattle.cx_job.specs.Keys.{lines_unless_starred}
use Rattle.cx_job.proofs.keys.push_others.Given as goal

abbrev pub invariant-params : goal.invariant-params
invariant-params l = l.text
    ≡ l.fn.text ++ flat_map (lines_unless_starred l.values) (take l.param-index l.params)
