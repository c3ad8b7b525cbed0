use Rattle.std.proofs.Common.{◌<◌, ◌≤◌, ◌+◌, ℕ, Bool, not, sym, ap, ◌∙◌, subst}
use Rattle.cx_core.specs.Cores.{ahead_in, enabled_in}
use Rattle.cx_run_loop.proofs.PickLaws.{HasCounted, counted_all, counted_no, counted_none, counted_yes}
use Rattle.cx_run_loop.proofs.picking.waiting.Goals as goal
use Rattle.cx_run_loop.proofs.picking.waiting.Goals.{then-not-ahead, else-not-ahead}

pub events-init : goal.events-init
events-init c = counted_none (λ k. not (ahead_in c.args.core.now k)) (enabled_in c.args.core.now)

pub events-preserved : goal.events-preserved
events-preserved c =
    let test : ℕ → Bool = λ k. not (ahead_in c.args.core.now k) in
    let below : c.events.k < enabled_in c.args.core.now =
    subst (λ (n : ℕ). c.events.k < n) c.enabled-k-end.ensures c.events-test.true in
    elim c.if-not-ahead.branch [
      | then-not-ahead w ↦
          subst (λ (n : ℕ). HasCounted test (enabled_in c.args.core.now) (c.events.k + 1) n)
          (sym w.count-is)
          (counted_yes test (enabled_in c.args.core.now) c.events.k c.events.count below
          (ap not (sym c.ahead.ensures ∙ w.if-not-ahead.true)) c.events.invariant)
      | else-not-ahead w ↦
          subst (λ (n : ℕ). HasCounted test (enabled_in c.args.core.now) (c.events.k + 1) n)
          (sym w.count-is)
          (counted_no test (enabled_in c.args.core.now) c.events.k c.events.count below
          (ap not (sym c.ahead.ensures ∙ w.if-not-ahead.false)) c.events.invariant)
    ]

pub returns : goal.returns
returns c =
    counted_all (λ k. not (ahead_in c.args.core.now k)) (enabled_in c.args.core.now) c.events.k
    c.events.count
    (subst (λ (n : ℕ). n ≤ c.events.k) c.enabled-k-end.ensures c.events-test.false)
    c.events.invariant
