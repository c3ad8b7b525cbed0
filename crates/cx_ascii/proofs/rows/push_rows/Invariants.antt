use Rattle.std.proofs.Common.{◌≡◌, ◌++◌, ◌*◌, drop}
use Rattle.std.specs.List.{flat_map, range_with_len}
use Rattle.cx_ascii.specs.Output.{row_in}
use Rattle.cx_ascii.proofs.rows.push_rows.Given as goal

abbrev pub invariant-rows : goal.invariant-rows
invariant-rows l =
    (l.rest ≡ drop (l.width * l.counter) l.values)
    × (l.text ≡ l.initial.text
    ++ flat_map (row_in l.width l.values) (range_with_len 0 l.counter))
