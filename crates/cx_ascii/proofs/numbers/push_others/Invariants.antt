use Rattle.std.proofs.Common.{◌≡◌, ◌++◌, length}
use Rattle.std.specs.List.{flat_map}
use Rattle.cx_ascii.specs.Output.{after_blank}
use Rattle.cx_ascii.proofs.numbers.push_others.Given as goal

abbrev pub invariant-values : goal.invariant-values
invariant-values l = l.text ++ flat_map after_blank l.rest
    ≡ l.initial.text ++ flat_map after_blank l.values

abbrev pub decreases-values : goal.decreases-values
decreases-values l = length l.rest
