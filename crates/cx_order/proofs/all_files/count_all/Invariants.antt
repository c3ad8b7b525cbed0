-- what counts of the thorns that were passed, with that of the rest, is what counts of all
use Rattle.cx_values.specs.Assigned.{thorn_finds}
use Rattle.cx_order_entries.specs.Seen.{seen}
use Rattle.cx_order.proofs.FileLaws.{Sofar}
use Rattle.cx_order.proofs.all_files.count_all.Given as goal

abbrev pub invariant-thorns : goal.invariant-thorns
invariant-thorns l = Sofar (λ n name index. thorn_finds l.values n name index)
    l.thorns l.files l.number (seen l.counted)
