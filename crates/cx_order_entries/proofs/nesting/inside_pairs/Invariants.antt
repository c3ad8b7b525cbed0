-- what is said, with the rest, is what is said with all
use Rattle.std.proofs.Common.{◌≡◌, ℕ, ◌||◌, map, drop}
use Rattle.std.specs.List.{list_any}
use Rattle.cx_order_entries.specs.Nested.{puts_inside}
use Rattle.cx_order_least.specs.Orders.{pair_before}
use Rattle.cx_order_entries.specs.Members.{texts}
use Rattle.cx_order_entries.specs.Seen.{seen_entry}
use Rattle.cx_order_entries.proofs.nesting.inside_pairs.Given as goal

abbrev pub invariant-entries : goal.invariant-entries
invariant-entries l = (a b : ℕ)
    → (pair_before l.pairs.items a b
    || list_any (λ e. puts_inside (texts l.groups) e a b)
    (map seen_entry (drop l.entry-index l.entries)))
    ≡ list_any (λ e. puts_inside (texts l.groups) e a b) (map seen_entry l.entries)
