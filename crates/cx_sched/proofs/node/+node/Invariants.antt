use Rattle.std.proofs.Common.{◌≤◌, ◌+◌, ◌*◌, length}
use Rattle.cx_text.specs.Rules.{loop}
use Rattle.cx_text.proofs.Loops.{SoFar}
use Rattle.cx_sched.specs.Nodes.{is_node, node, body}
use Rattle.cx_sched.proofs.node.+node.Given as goal

-- the tokens left, and how many calls may follow before one is taken
abbrev pub decreases-otherwise : goal.decreases-otherwise
decreases-otherwise l = 8 * length l.reader.now.rest.now

abbrev pub decreases-conditional : goal.decreases-conditional
decreases-conditional l = 8 * length l.reader.now.rest.now

abbrev pub decreases-braced : goal.decreases-braced
decreases-braced l = 8 * length l.reader.now.rest.now

abbrev pub decreases-node : goal.decreases-node
decreases-node l = 8 * length l.reader.now.rest.now + 1

abbrev pub decreases-nodes : goal.decreases-nodes
decreases-nodes l = 8 * length l.reader.now.rest.now + 2

abbrev pub decreases-single : goal.decreases-single
decreases-single l = 8 * length l.reader.now.rest.now + 2

abbrev pub decreases-body : goal.decreases-body
decreases-body l = 8 * length l.reader.now.rest.now + 3

abbrev pub invariant-nodes-nodes : goal.invariant-nodes-nodes
invariant-nodes-nodes l = record {
  so_far : SoFar is_node (node (body l.depth)) l.read l.reader.rest.now
      ((loop is_node (node (body l.depth)) l.fn.read).reads l.fn.reader.rest.now);
  fewer : length l.reader.rest.now ≤ length l.fn.reader.rest.now;
}

abbrev pub decreases-nodes-nodes : goal.decreases-nodes-nodes
decreases-nodes-nodes l = length l.reader.rest.now
