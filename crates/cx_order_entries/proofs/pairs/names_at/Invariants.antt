-- what is there, with what comes of the rest, is what comes of all
use Rattle.std.proofs.Common.{◌≡◌, [], map, drop}
use Rattle.std.specs.Str.{bytes_eq}
use Rattle.cx_order_entries.specs.Members.{entries_of, key_name}
use Rattle.cx_order_entries.specs.Seen.{seen_entry}
use Rattle.cx_order_entries.proofs.OnceLaws.{come}
use Rattle.cx_order_entries.proofs.pairs.names_at.Given as goal

abbrev pub invariant-members : goal.invariant-members
invariant-members l = come bytes_eq l.names
    (map key_name (drop l.number (entries_of (map seen_entry l.entries) l.members)))
    ≡ come bytes_eq [] (map key_name (entries_of (map seen_entry l.entries) l.members))
