use Rattle.std.proofs.Common.{◌≡◌, ℕ, ◌&&◌, ◌||◌}
use Rattle.std.specs.Prelude.{◌==◌, nat_lt}
use Rattle.cx_scope.specs.Reach.{has_edge}
use Rattle.cx_scope.specs.Closures.{is_tied}
use Rattle.cx_scope.proofs.edges.push_edges_from.Given as goal

abbrev pub invariant-to : goal.invariant-to
invariant-to l = (a b : ℕ)
    → has_edge l.edges a b ≡ (has_edge l.fn.edges a b
    || (a == l.from && (nat_lt b l.to && is_tied l.thorns l.names l.tie l.from b)))
