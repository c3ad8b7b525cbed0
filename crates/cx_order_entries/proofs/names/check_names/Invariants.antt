-- the keys of the entries that were passed, and the first that is there again among the rest
use Rattle.std.proofs.Common.{map}
use Rattle.cx_order_entries.specs.Entries.{names_fault}
use Rattle.cx_order_entries.specs.Seen.{seen_entry}
use Rattle.cx_order_entries.proofs.KeyLaws.{Sofar}
use Rattle.cx_order_entries.proofs.NameLaws.{told}
use Rattle.cx_order_entries.proofs.names.check_names.Given as goal

abbrev pub invariant-entries : goal.invariant-entries
invariant-entries l = Sofar (told (map seen_entry l.entries))
    (names_fault (map seen_entry l.entries)) (map seen_entry l.entries) l.entry-index l.keys
