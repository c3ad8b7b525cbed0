use Rattle.std.proofs.Common.{◌≡◌, ◌≤◌, ◌+◌, ◌∙◌, ℕ, true, false, drop, get_or, length, sym, ap, subst}
use Rattle.cx_plan.specs.declared.variable.VarInfo.{VarInfo}
use Rattle.cx_keep.specs.Fits.{begins_with, holds_value, each_fits, variables_by}
use Rattle.cx_keep.proofs.Fitting.{step, stop, begins_is, begins_within}
use Rattle.cx_keep.proofs.fits.scalars_fit.Goals as goal
use Rattle.cx_plan.specs.Whole.{scalar_count}

pub each-preserved : goal.each-preserved
each-preserved c =
    let v : VarInfo = c.v-item.result in
    let begins : begins_with (holds_value v) (scalar_count v) (drop c.each.at c.args.values.now)
    ≡ true =
    begins_is (holds_value v) c.scalar_count-count.result (scalar_count v)
    c.each.at c.args.values.now c.begin_values.result true c.scalar_count-count.ensures
    c.begin_values.ensures c.if-not-begin_values.false in
    let here : VarInfo = get_or c.args.vars.now c.each.v-index v in
    let at_place : begins_with (holds_value here) (scalar_count here)
    (drop c.each.at c.args.values.now) ≡ true =
    subst (λ (w : VarInfo).
    begins_with (holds_value w) (scalar_count w) (drop c.each.at c.args.values.now) ≡ true)
    c.v-item.is begins in
    record {
      within = subst (λ (n : ℕ). c.each.at + n ≤ length c.args.values.now)
          (sym c.scalar_count-count.ensures)
          (begins_within (holds_value v) (scalar_count v)
          c.each.at c.args.values.now c.each.invariant.within begins);
      so_far =
          ap (λ (n : ℕ). each_fits holds_value
          (variables_by scalar_count (drop (c.each.v-index + 1) c.args.vars.now))
          (drop (c.each.at + n) c.args.values.now))
          (c.scalar_count-count.ensures ∙ ap scalar_count c.v-item.is)
          ∙ step holds_value scalar_count c.args.vars.now c.each.v-index v c.args.values.now
          c.each.at c.each-test.true at_place
          ∙ c.each.invariant.so_far;
    }

pub returns-then-not-begin_values : goal.returns-then-not-begin_values
returns-then-not-begin_values c =
    let v : VarInfo = c.v-item.result in
    let begins : begins_with (holds_value v) (scalar_count v) (drop c.each.at c.args.values.now)
    ≡ false =
    begins_is (holds_value v) c.scalar_count-count.result (scalar_count v)
    c.each.at c.args.values.now c.begin_values.result false c.scalar_count-count.ensures
    c.begin_values.ensures c.if-not-begin_values.true in
    let here : VarInfo = get_or c.args.vars.now c.each.v-index v in
    let at_place : begins_with (holds_value here) (scalar_count here)
    (drop c.each.at c.args.values.now) ≡ false =
    subst (λ (w : VarInfo).
    begins_with (holds_value w) (scalar_count w) (drop c.each.at c.args.values.now) ≡ false)
    c.v-item.is begins in
    sym (stop holds_value scalar_count c.args.vars.now c.each.v-index v
    (drop c.each.at c.args.values.now) c.each-test.true at_place) ∙ c.each.invariant.so_far
