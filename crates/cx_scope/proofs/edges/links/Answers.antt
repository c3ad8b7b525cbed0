use Rattle.cx_scope.proofs.EdgeLaws.{ties_end, linked}
use Rattle.cx_scope.proofs.edges.links.Goals as goal

pub rows-requires : goal.rows-requires
rows-requires c =
    ties_end c.args.thorns.now c.args.tie c.as_slice.result.now c.in_ok-names.names
    c.in_ok-edges.edges c.as_slice-2.result.now c.len.result c.as_slice.ensures
    c.in_ok-edges.ensures c.as_slice-2.ensures c.len.ensures

pub returns : goal.returns
returns c =
    linked c.args.thorns.now c.args.tie c.as_slice.result.now c.in_ok-names.names
    c.in_ok-edges.edges c.as_slice-2.result.now c.len.result c.as_slice.ensures
    c.in_ok-edges.ensures c.as_slice-2.ensures c.len.ensures c.in_ok-rows.rows
    c.in_ok-names.ensures c.in_ok-rows.ensures
