use Rattle.std.proofs.Common.{◌≡◌, ◌++◌, take}
use Rattle.std.specs.List.{flat_map}
use Rattle.cx_job_items.specs.Matching.{param_text}
use Rattle.cx_job_items.proofs.mismatch.push_each_param.Given as goal

abbrev pub invariant-names : goal.invariant-names
invariant-names l = l.text ≡ l.fn.text ++ flat_map (param_text l.values) (take l.name-index l.names)
