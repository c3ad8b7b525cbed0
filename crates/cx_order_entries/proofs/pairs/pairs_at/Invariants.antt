-- what the entries say that were passed
use Rattle.std.proofs.Common.{◌≡◌, ℕ, ◌||◌, map, take}
use Rattle.std.specs.Prelude.{slice_get}
use Rattle.cx_order_least.specs.Orders.{pair_before}
use Rattle.cx_order_entries.specs.Members.{entries_of, says_before, says_after}
use Rattle.cx_order_entries.specs.Seen.{seen_entry}
use Rattle.cx_order_entries.proofs.pairs.pairs_at.Given as goal

abbrev pub invariant-members : goal.invariant-members
invariant-members l = (a b : ℕ)
    → pair_before l.pairs.items a b
    ≡ (says_before l.names (slice_get
    (take l.number (entries_of (map seen_entry l.entries) l.members)) a) b
    || says_after l.names (slice_get
    (take l.number (entries_of (map seen_entry l.entries) l.members)) b) a)
