use Rattle.std.specs.Prelude.{◌≡◌, ◌<◌}
use Rattle.cx_core_buffers.specs.Boards.{front}
use Rattle.law_parts.specs.Holding.{joined}
use Rattle.cx_core.specs.Moving.{all_fronts}
use Rattle.cx_core.proofs.operations.joined_fronts.Given as goal
use Rattle.law_network.specs.Machine.{sum_below}

-- the numbers of the first parts are joined
abbrev pub invariant-parts : goal.invariant-parts
invariant-parts l = record {
  some : 0 < l.a;
  kind : l.number.kind ≡ (front l.boards 0 l.to).kind;
  points : l.number.points ≡ sum_below l.a (λ b. (front l.boards b l.to).points);
  number : l.number.number ≡ joined (front l.boards 0 l.to).kind (all_fronts l.boards l.to l.a);
}
