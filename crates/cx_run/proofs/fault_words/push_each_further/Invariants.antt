use Rattle.std.proofs.Common.{◌≡◌, ◌++◌, take, codes}
use Rattle.std.specs.List.{flat_map}
use Rattle.cx_run.specs.FaultWords.{or_dash}
use Rattle.cx_run.proofs.fault_words.push_each_further.Given as goal

abbrev pub invariant-names : goal.invariant-names
invariant-names l = l.text
    ≡ l.fn.text ++ flat_map (λ name. codes "," ++ or_dash name) (take l.name-index l.names)
