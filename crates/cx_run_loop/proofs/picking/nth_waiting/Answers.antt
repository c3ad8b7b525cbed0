use Rattle.std.proofs.Common.{◌<◌, ◌≤◌, ◌+◌, ℕ, Bool, not, sym, ap, ◌∙◌, subst}
use Rattle.cx_core.specs.Cores.{ahead_in, enabled_in}
use Rattle.cx_run_loop.proofs.PickLaws.{IsLeft, left_all, left_end, left_here, left_no, left_yes}
use Rattle.cx_run_loop.proofs.picking.nth_waiting.Goals as goal
use Rattle.cx_run_loop.proofs.picking.nth_waiting.Goals.{then-not-ahead+else-left-eq0, else-not-ahead}

pub events-init : goal.events-init
events-init c =
    left_all (λ k. not (ahead_in c.args.core.now k)) (enabled_in c.args.core.now) c.args.i

pub events-preserved : goal.events-preserved
events-preserved c =
    let test : ℕ → Bool = λ k. not (ahead_in c.args.core.now k) in
    let below : c.events.k < enabled_in c.args.core.now =
    subst (λ (m : ℕ). c.events.k < m) c.enabled-k-end.ensures c.events-test.true in
    elim c.if-not-ahead.branch [
      | then-not-ahead+else-left-eq0 w ↦
          subst (λ (m : ℕ). IsLeft test (enabled_in c.args.core.now) c.args.i (c.events.k + 1) m)
          (sym w.left-is)
          (left_yes test (enabled_in c.args.core.now) c.args.i c.events.k c.events.left below
          (ap not (sym c.ahead.ensures ∙ w.if-not-ahead.true)) w.if-left-eq0.false
          c.events.invariant)
      | else-not-ahead w ↦
          subst (λ (m : ℕ). IsLeft test (enabled_in c.args.core.now) c.args.i (c.events.k + 1) m)
          (sym w.left-is)
          (left_no test (enabled_in c.args.core.now) c.args.i c.events.k c.events.left below
          (ap not (sym c.ahead.ensures ∙ w.if-not-ahead.false)) c.events.invariant)
    ]

pub unreachable-requires : goal.unreachable-requires
unreachable-requires c =
    left_end (λ k. not (ahead_in c.args.core.now k)) (enabled_in c.args.core.now) c.args.i
    c.events.k c.events.left
    (subst (λ (m : ℕ). m ≤ c.events.k) c.enabled-k-end.ensures c.events-test.false)
    c.requires.there c.events.invariant

pub returns-then-left-eq0-clause-nth : goal.returns-then-left-eq0-clause-nth
returns-then-left-eq0-clause-nth c =
    left_here (λ k. not (ahead_in c.args.core.now k)) (enabled_in c.args.core.now) c.args.i
    c.events.k c.events.left
    (subst (λ (m : ℕ). c.events.k < m) c.enabled-k-end.ensures c.events-test.true)
    (ap not (sym c.ahead.ensures ∙ c.if-not-ahead.true)) c.if-left-eq0.true c.events.invariant
