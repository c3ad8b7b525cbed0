use Rattle.std.proofs.Common.{◌≡◌, true, drop, take}
use Rattle.cx_plan.specs.Lists.{first_again, first_again_behind}
use Rattle.cx_chunks.specs.Combining.{is_twin}
use Rattle.cx_chunks.proofs.TurnLaws.{IsTop}
use Rattle.cx_chunks.proofs.checks.check_twins.Given as goal

abbrev pub invariant-pieces : goal.invariant-pieces
invariant-pieces l =
    record {
      same : first_again_behind is_twin (take l.place l.pieces) (drop l.place l.pieces)
          ≡ first_again is_twin l.pieces;
      top : l.in_turn ≡ true → IsTop (take l.place l.pieces);
    }
