use Rattle.std.proofs.Common.{◌≡◌, ◌++◌, take}
use Rattle.std.specs.List.{flat_map}
use Rattle.cx_ascii.specs.Output.{after_blank}
use Rattle.cx_ascii.proofs.numbers.push_each.Given as goal

abbrev pub invariant-values : goal.invariant-values
invariant-values l = l.text ≡ l.initial.text ++ flat_map after_blank (take l.value-index l.values)
