use Rattle.std.proofs.Common.{◌+◌, ◌≤◌, ◌^◌, ◌∙◌, sym, subst, arith}
use Rattle.cx_cut.specs.Cuts.{part_count}
use Rattle.cx_reduce.specs.Partials.{Reduced}
use Rattle.cx_core_buffers.specs.Boards.{front}
use Rattle.cx_core.proofs.FrontNumbers.{points_within, more_kind, more_points, more_number}
use Rattle.cx_core.proofs.operations.joined_fronts.Goals as goal

pub join-number-requires-clause-few : goal.join-number-requires-clause-few
join-number-requires-clause-few c =
    let t = c.parts-test.true in
    let n = c.count-a-end.ensures.value in
    subst (λ (x : Reduced). c.parts.number.points + x.points ≤ 2 ^ 24)
    (sym (c.copy.ensures ∙ c.front-in-parts.ensures))
    (points_within c.parts.a (part_count c.args.cut.now) (2 ^ 24)
    (λ b. (front c.args.boards.now b c.args.to).points)
    c.parts.number.points c.parts.invariant.points
    (omega (arith, t, n)) c.requires.fronts.few)

pub parts-preserved : goal.parts-preserved
parts-preserved c =
    let some = c.parts.invariant.some in
    let kind = (front c.args.boards.now 0 c.args.to).kind in
    record {
      some = omega (arith, some);
      kind = more_kind c.args.boards.now c.args.to c.parts.a kind c.requires.fronts.reduction some
          c.parts.number c.copy.result c.join-number.result
          c.parts.invariant.kind c.parts.invariant.points c.parts.invariant.number
          (c.copy.ensures ∙ c.front-in-parts.ensures) c.join-number.ensures;
      points = more_points c.args.boards.now c.args.to c.parts.a kind c.requires.fronts.reduction
          some c.parts.number c.copy.result c.join-number.result
          c.parts.invariant.kind c.parts.invariant.points c.parts.invariant.number
          (c.copy.ensures ∙ c.front-in-parts.ensures) c.join-number.ensures;
      number = more_number c.args.boards.now c.args.to c.parts.a kind c.requires.fronts.reduction
          some c.parts.number c.copy.result c.join-number.result
          c.parts.invariant.kind c.parts.invariant.points c.parts.invariant.number
          (c.copy.ensures ∙ c.front-in-parts.ensures) c.join-number.ensures;
    }
