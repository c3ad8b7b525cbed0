-- the pairs that were passed
use Rattle.std.proofs.Common.{◌≡◌, ℕ, ◌&&◌, ltb, length, take}
use Rattle.cx_order_least.specs.Links.{links}
use Rattle.cx_order_least.specs.Orders.{pair_before}
use Rattle.cx_order_least.proofs.graph.Graph.new.Given as goal

abbrev pub invariant-pairs : goal.invariant-pairs
invariant-pairs l =
    record {
      before_length : length l.graph.before ≡ l.count;
      after_length : length l.graph.after ≡ l.count;
      before : (a b : ℕ) → links l.graph.before b a
          ≡ (pair_before (take l.first-index l.pairs) a b && (ltb a l.count && ltb b l.count));
      after : (a b : ℕ) → links l.graph.after a b
          ≡ (pair_before (take l.first-index l.pairs) a b && (ltb a l.count && ltb b l.count));
    }
