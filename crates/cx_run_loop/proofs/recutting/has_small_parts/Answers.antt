use Rattle.std.proofs.Common.{◌<◌, ◌≤◌, ℕ, sym, ◌∙◌, subst}
use Rattle.std.specs.Prelude.{nat_le}
use Rattle.cx_grid.specs.Boxes.{point_count}
use Rattle.cx_cut.specs.Cuts.{local, part_count}
use Rattle.cx_run_loop.proofs.RecutLaws.{all_end, all_here, all_start, all_stop}
use Rattle.cx_run_loop.proofs.recutting.has_small_parts.Goals as goal

pub parts-init : goal.parts-init
parts-init c =
    all_start (λ k. nat_le (point_count (local c.args.cut.now k)) c.args.most)
    (part_count c.args.cut.now)

pub parts-preserved : goal.parts-preserved
parts-preserved c =
    let below : c.parts.part < part_count c.args.cut.now =
    subst (λ (n : ℕ). c.parts.part < n) c.count-part-end.ensures.value c.parts-test.true in
    sym (all_here (λ k. nat_le (point_count (local c.args.cut.now k)) c.args.most) c.parts.part
    (part_count c.args.cut.now) below (sym c.is_small.ensures ∙ c.if-not-is_small.false))
    ∙ c.parts.invariant

pub returns-then-not-is_small : goal.returns-then-not-is_small
returns-then-not-is_small c =
    let below : c.parts.part < part_count c.args.cut.now =
    subst (λ (n : ℕ). c.parts.part < n) c.count-part-end.ensures.value c.parts-test.true in
    sym (all_stop (λ k. nat_le (point_count (local c.args.cut.now k)) c.args.most) c.parts.part
    (part_count c.args.cut.now) below (sym c.is_small.ensures ∙ c.if-not-is_small.true))
    ∙ c.parts.invariant

pub returns : goal.returns
returns c =
    let end : part_count c.args.cut.now ≤ c.parts.part =
    subst (λ (n : ℕ). n ≤ c.parts.part) c.count-part-end.ensures.value c.parts-test.false in
    sym (all_end (λ k. nat_le (point_count (local c.args.cut.now k)) c.args.most) c.parts.part
    (part_count c.args.cut.now) end) ∙ c.parts.invariant
