-- what is known of the entries from a number on
use Rattle.std.proofs.Common.{◌≡◌, ℕ, List, map, drop}
use Rattle.cx_order_entries.specs.Counted.{Entry}
use Rattle.cx_order.specs.Meanings.{World, meaning}
use Rattle.cx_order_entries.specs.Members.{entries_of}
use Rattle.cx_order.specs.Plans.{Forest, row_of}
use Rattle.cx_order_entries.specs.Seen.{seen_entry}
use Rattle.cx_order.specs.Summaries.{IsSummary, AreInside}
use Rattle.cx_order.proofs.all_places.place_summary.Given as goal

abbrev pub invariant-numbers : goal.invariant-numbers
invariant-numbers l =
    (w : World) (path : List ℕ) (inside : Entry → List ℕ → Forest)
    → l.meanings ≡ map (meaning w) (map seen_entry l.entries)
    → AreInside w (map seen_entry l.entries) l.placed.inside l.table path inside l.numbers.items
    → IsSummary w path (row_of inside path
    (entries_of (map seen_entry l.entries) (drop l.at l.numbers.items)))
    (record { sizes = l.summary.0; fault = l.summary.1.0 })
