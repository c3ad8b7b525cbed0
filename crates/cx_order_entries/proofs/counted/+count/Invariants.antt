-- what is there, with the rest, is what was there with all nodes
use Rattle.std.proofs.Common.{drop}
use Rattle.cx_order_entries.specs.Seen.{seen}
use Rattle.cx_order_entries.proofs.CountedLaws.{Passed}
use Rattle.cx_order_entries.proofs.counted.+count.Given as goal

abbrev pub invariant-push_nodes-nodes : goal.invariant-push_nodes-nodes
invariant-push_nodes-nodes g l =
    Passed l.thorn (g.L.Lookup.finds l.names) (seen l.fn.counted) (seen l.counted) l.nodes
    (drop l.node-index l.nodes)
