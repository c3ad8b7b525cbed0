use Rattle.std.proofs.Common.{ap, sym, ◌∙◌, ◌&&◌, length}
use Rattle.std.specs.Prelude.{nat_lt}
use Rattle.cx_scope.specs.Reach.{has_edge}
use Rattle.cx_scope.specs.Closures.{is_tied}
use Rattle.cx_scope.proofs.EdgeLaws.{none_below, from_more}
use Rattle.cx_scope.proofs.edges.edges.Goals as goal

pub from-init : goal.from-init
from-init c = λ a b.
    ap (λ es. has_edge es a b) c.empty-edges.ensures
    ∙ sym
    (ap (λ l. l && (nat_lt b (length c.args.names.now)
    && is_tied c.args.thorns.now c.args.names.now c.args.tie a b)) (none_below a))

pub from-preserved : goal.from-preserved
from-preserved c = λ a b.
    from_more (λ k. nat_lt b (length c.args.names.now)
    && is_tied c.args.thorns.now c.args.names.now c.args.tie k b) a c.from.from
    (c.from.invariant a b) (c.in_ok-push_edges_from.ensures a b)
