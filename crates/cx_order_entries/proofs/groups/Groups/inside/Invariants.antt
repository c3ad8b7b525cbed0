use Rattle.std.proofs.Common.{◌≡◌, map, take}
use Rattle.cx_order_entries.specs.Members.{texts, inside_of}
use Rattle.cx_order_entries.specs.Seen.{seen_entry}
use Rattle.cx_order_entries.proofs.groups.Groups.inside.Given as goal

abbrev pub invariant-entries : goal.invariant-entries
invariant-entries l = l.inside.items
    ≡ map (inside_of (texts l.self)) (map seen_entry (take l.entry-index l.entries))
