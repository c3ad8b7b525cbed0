use Rattle.std.proofs.Common.{◌≡◌, ◌∙◌, ℕ, ◌<◌, List, set, sym, ap, subst, true, false}
use Rattle.cx_order_least.specs.Links.{is_left}
use Rattle.cx_order_least.specs.Orders.{count}
use Rattle.cx_order_least.proofs.Rest.{left-below}
use Rattle.cx_order_least.proofs.WalkSteps.{Walk, walk-step, walk-falls}
use Rattle.cx_order_least.proofs.cycle.walk_back.Goals as goal

pub walk-preserved : goal.walk-preserved
walk-preserved c =
    let seen = c.walk.seen.items in
    let left : is_left seen c.walk.last ≡ true =
    ap (λ s. is_left s c.walk.last) (sym c.deref.ensures.value)
    ∙ (sym c.is_left.ensures ∙ c.walk-test.true) in
    let b = c.blocked_by-last.ensures in
    let P : List ℕ → Type 0 =
    λ path. Walk c.args.before.now c.blocked_by-last.new.before c.args.marks.now
    (set seen c.walk.last true) path c.blocked_by-last.result in
    subst P (sym c.in_ok-push_front.ensures.items)
    (walk-step c.args.before.now c.walk.before c.blocked_by-last.new.before c.args.marks.now
    seen c.walk.path.items c.walk.last c.blocked_by-last.result c.walk.invariant left b.length
    b.kept b.fewer b.left b.found)

pub walk-smaller : goal.walk-smaller
walk-smaller c =
    let seen = c.walk.seen.items in
    let left : is_left seen c.walk.last ≡ true =
    ap (λ s. is_left s c.walk.last) (sym c.deref.ensures.value)
    ∙ (sym c.is_left.ensures ∙ c.walk-test.true) in
    walk-falls c.args.before.now c.walk.before c.blocked_by-last.new.before c.args.marks.now seen
    c.walk.path.items c.walk.last c.blocked_by-last.result c.walk.invariant left

pub returns-clause-again : goal.returns-clause-again
returns-clause-again c =
    let last = c.walk.last in
    let gone : is_left c.walk.seen.items last ≡ false =
    ap (λ s. is_left s last) (sym c.deref.ensures.value)
    ∙ (sym c.is_left.ensures ∙ c.walk-test.false) in
    let P : List ℕ → Type 0 = λ path. 0 < count last path in
    subst P (sym c.into_vec.ensures.items)
    (c.walk.invariant.passed last (left-below c.args.marks.now last c.walk.invariant.there)
    gone)
