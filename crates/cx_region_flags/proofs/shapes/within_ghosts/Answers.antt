use Rattle.std.proofs.Common.{◌<◌, pos, int_le, sym, ◌∙◌, arith}
use Rattle.cx_grid.specs.Boxes.{along}
use Rattle.cx_region_flags.proofs.RangeLaws.{all_of_range, not_all_of_range}
use Rattle.cx_region_flags.proofs.shapes.within_ghosts.Goals as goal

pub returns-then-not-is_within : goal.returns-then-not-is_within
returns-then-not-is_within c =
    sym (not_all_of_range (λ d. int_le (pos c.args.reach) (along c.args.shape.now.ghost_ d))
    c.args.shape.now.dims c.loop-direction.direction c.loop-direction-test.true
    (sym c.is_within.ensures ∙ c.if-not-is_within.true))

pub returns : goal.returns
returns c =
    sym (all_of_range (λ d. int_le (pos c.args.reach) (along c.args.shape.now.ghost_ d))
    c.args.shape.now.dims 0
    (λ k low high. let below : k < c.loop-direction.direction = omega arith in
    c.loop-direction.invariant k below))
