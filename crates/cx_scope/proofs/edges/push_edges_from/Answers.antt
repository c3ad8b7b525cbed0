use Rattle.std.specs.Prelude.{◌==◌}
use Rattle.cx_scope.specs.Reach.{has_edge}
use Rattle.cx_scope.specs.Closures.{is_tied}
use Rattle.cx_scope.proofs.EdgeLaws.{nothing_yet, to_more}
use Rattle.cx_scope.proofs.edges.push_edges_from.Goals as goal

pub to-init : goal.to-init
to-init c = λ a b. nothing_yet (has_edge c.args.edges.now a b) (a == c.args.from)
    (is_tied c.args.thorns.now c.args.names.now c.args.tie c.args.from) b

pub to-preserved : goal.to-preserved
to-preserved c = λ a b.
    to_more (has_edge c.args.edges.now a b) (a == c.args.from)
    (is_tied c.args.thorns.now c.args.names.now c.args.tie c.args.from) b c.to.to
    (c.to.invariant a b) c.is_tied.ensures (c.in_ok-push_edge.ensures a b)
