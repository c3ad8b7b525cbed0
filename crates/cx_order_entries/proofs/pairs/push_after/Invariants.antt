-- what is said, with the rest, is what is said with all
use Rattle.std.proofs.Common.{◌≡◌, ℕ, ◌||◌, ◌&&◌, drop}
use Rattle.std.specs.Prelude.{◌==◌}
use Rattle.cx_order_least.specs.Orders.{pair_before}
use Rattle.cx_order_entries.specs.Members.{has_number}
use Rattle.cx_order_entries.proofs.pairs.push_after.Given as goal

abbrev pub invariant-others : goal.invariant-others
invariant-others l = (a b : ℕ)
    → (pair_before l.pairs.items a b
    || (has_number l.names (drop l.other-index l.others) a && b == l.number))
    ≡ (pair_before l.fn.pairs.items a b || (has_number l.names l.others a && b == l.number))
