use Rattle.std.proofs.Common.{rules, ◌≡◌, ◌<◌, false, length, take}
use Rattle.std.specs.List.{list_any}
use Rattle.cx_plan.specs.Lists.{first_again}
use Rattle.cx_chunks.specs.Combining.{is_twin}
use Rattle.cx_chunks.proofs.TurnLaws.{next_single, next_top, again_more, top_taken}
use Rattle.cx_chunks.proofs.checks.check_twins.Goals as goal

pub is_again-requires : goal.is_again-requires
is_again-requires c =
    next_single c.pieces.in_turn c.goes_on-turn.result (take c.pieces.place c.args.pieces.now)
    c.index-pieces-place.result c.pieces.invariant.top c.goes_on-turn.ensures

pub pieces-preserved : goal.pieces-preserved
pieces-preserved c =
    let pieces = c.args.pieces.now in
    let p = c.index-pieces-place.result in
    let within : c.pieces.place < length pieces = search rules in
    let new : list_any (is_twin p) (take c.pieces.place pieces) ≡ false = search rules in
    record {
      same = again_more pieces c.pieces.place p (first_again is_twin pieces) within
          c.index-pieces-place.is new c.pieces.invariant.same;
      top = λ turn. top_taken pieces c.pieces.place p within c.index-pieces-place.is
          (next_top c.pieces.in_turn c.goes_on-turn.result (take c.pieces.place pieces) p
          c.pieces.invariant.top c.goes_on-turn.ensures turn);
    }
