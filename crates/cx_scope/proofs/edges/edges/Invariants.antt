use Rattle.std.proofs.Common.{◌≡◌, ℕ, ◌&&◌, length}
use Rattle.std.specs.Prelude.{nat_lt}
use Rattle.cx_scope.specs.Reach.{has_edge}
use Rattle.cx_scope.specs.Closures.{is_tied}
use Rattle.cx_scope.proofs.edges.edges.Given as goal

abbrev pub invariant-from : goal.invariant-from
invariant-from l = (a b : ℕ)
    → has_edge l.edges a b ≡ (nat_lt a l.from
    && (nat_lt b (length l.names) && is_tied l.thorns l.names l.tie a b))
