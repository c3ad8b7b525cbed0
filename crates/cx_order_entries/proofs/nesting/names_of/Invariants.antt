use Rattle.std.proofs.Common.{◌≡◌, map, filter_map, take}
use Rattle.std.specs.Prelude.{slice_get}
use Rattle.cx_order_entries.proofs.nesting.names_of.Given as goal

abbrev pub invariant-numbers : goal.invariant-numbers
invariant-numbers l = l.names
    ≡ filter_map (λ k. slice_get (map (λ name. name.now) l.groups) k)
    (take l.number-index l.numbers)
