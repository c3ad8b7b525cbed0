use Rattle.std.proofs.Common.{◌≡◌, ◌≤◌, ◌+◌, ◌∙◌, ℕ, true, false, drop, get_or, length, sym, ap, subst}
use Rattle.cx_plan.specs.declared.variable.VarInfo.{VarInfo}
use Rattle.cx_keep.specs.Fits.{begins_with, holds_level, each_fits, variables_by}
use Rattle.cx_keep.proofs.Fitting.{step, stop, begins_is, begins_within}
use Rattle.cx_keep.proofs.fits.levels_fit.Goals as goal
use Rattle.cx_plan.specs.Whole.{level_count}

pub each-preserved : goal.each-preserved
each-preserved c =
    let v : VarInfo = c.v-item.result in
    let begins : begins_with (holds_level c.args.points v) (level_count v)
    (drop c.each.at c.args.levels.now) ≡ true =
    begins_is (holds_level c.args.points v) c.level_count-count.result (level_count v)
    c.each.at c.args.levels.now c.begin_levels.result true c.level_count-count.ensures
    c.begin_levels.ensures c.if-not-begin_levels.false in
    let here : VarInfo = get_or c.args.vars.now c.each.v-index v in
    let at_place : begins_with (holds_level c.args.points here) (level_count here)
    (drop c.each.at c.args.levels.now) ≡ true =
    subst (λ (w : VarInfo).
    begins_with (holds_level c.args.points w) (level_count w) (drop c.each.at c.args.levels.now)
    ≡ true) c.v-item.is begins in
    record {
      within = subst (λ (n : ℕ). c.each.at + n ≤ length c.args.levels.now)
          (sym c.level_count-count.ensures)
          (begins_within (holds_level c.args.points v) (level_count v)
          c.each.at c.args.levels.now c.each.invariant.within begins);
      so_far =
          ap (λ (n : ℕ). each_fits (holds_level c.args.points)
          (variables_by level_count (drop (c.each.v-index + 1) c.args.vars.now))
          (drop (c.each.at + n) c.args.levels.now))
          (c.level_count-count.ensures ∙ ap level_count c.v-item.is)
          ∙ step (holds_level c.args.points)
          level_count c.args.vars.now c.each.v-index v c.args.levels.now c.each.at
          c.each-test.true at_place
          ∙ c.each.invariant.so_far;
    }

pub returns-then-not-begin_levels : goal.returns-then-not-begin_levels
returns-then-not-begin_levels c =
    let v : VarInfo = c.v-item.result in
    let begins : begins_with (holds_level c.args.points v) (level_count v)
    (drop c.each.at c.args.levels.now) ≡ false =
    begins_is (holds_level c.args.points v) c.level_count-count.result (level_count v)
    c.each.at c.args.levels.now c.begin_levels.result false c.level_count-count.ensures
    c.begin_levels.ensures c.if-not-begin_levels.true in
    let here : VarInfo = get_or c.args.vars.now c.each.v-index v in
    let at_place : begins_with (holds_level c.args.points here) (level_count here)
    (drop c.each.at c.args.levels.now) ≡ false =
    subst (λ (w : VarInfo).
    begins_with (holds_level c.args.points w) (level_count w) (drop c.each.at c.args.levels.now)
    ≡ false) c.v-item.is begins in
    sym (stop (holds_level c.args.points) level_count c.args.vars.now c.each.v-index v
    (drop c.each.at c.args.levels.now) c.each-test.true at_place) ∙ c.each.invariant.so_far
