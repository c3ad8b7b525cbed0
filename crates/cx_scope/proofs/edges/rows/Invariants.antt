use Rattle.std.proofs.Common.{◌≡◌, ◌<◌, ℕ, length}
use Rattle.cx_scope.proofs.EdgeLaws.{Marks}
use Rattle.cx_scope.proofs.edges.rows.Given as goal

abbrev pub invariant-from : goal.invariant-from
invariant-from l = record {
  long : length l.rows ≡ l.from;
  marks : (a : ℕ) → a < l.from → Marks l.edges l.rows a;
}
