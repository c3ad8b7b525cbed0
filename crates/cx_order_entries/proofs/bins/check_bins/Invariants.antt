use Rattle.std.proofs.Common.{◌≡◌, map, drop}
use Rattle.cx_order_entries.specs.Entries.{bin_fault}
use Rattle.cx_order_entries.specs.Seen.{seen_entry}
use Rattle.cx_order_entries.proofs.bins.check_bins.Given as goal

abbrev pub invariant-entries : goal.invariant-entries
invariant-entries l = bin_fault (map seen_entry (drop l.entry-index l.entries))
    ≡ bin_fault (map seen_entry l.entries)
