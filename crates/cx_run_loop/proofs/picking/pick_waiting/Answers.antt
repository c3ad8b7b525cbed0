use Rattle.std.proofs.Common.{◌≡◌, ◌<◌, ℕ, Bool, true, not, arith, sym, ap, ◌∙◌, subst}
use Rattle.cx_core.specs.Cores.{ahead_in, enabled_in}
use Rattle.cx_run_loop.proofs.PickLaws.{all_counted, each_there, some_passes}
use Rattle.cx_run_loop.proofs.picking.pick_waiting.Goals as goal

pub pick-i-requires : goal.pick-i-requires
pick-i-requires g c =
    let some = c.requires.some in
    subst (λ (n : ℕ). 0 < n) (sym c.waiting.ensures)
    (some_passes (λ k. not (ahead_in c.args.core.now k)) (enabled_in c.args.core.now) some.0
    some.1 (ap not some.2))

pub nth_waiting-requires : goal.nth_waiting-requires
nth_waiting-requires g c = record {
  there = subst (λ (n : ℕ). c.pick-i.result < n) c.waiting.ensures c.pick-i.ensures.below;
}

pub pick-requires : goal.pick-requires
pick-requires g c =
    let some = c.requires.some in
    let below : some.0 < enabled_in c.args.core.now = some.1 in
    subst (λ (n : ℕ). 0 < n) (sym c.enabled.ensures) (omega (arith, below))

pub returns-then-is_saving-clause-picks : goal.returns-then-is_saving-clause-picks
returns-then-is_saving-clause-picks g c = (
  c.pick-i.result,
  subst (λ (n : ℕ). g.T.Turns.picks c.args.turns.now n c.pick-i.result c.pick-i.new.self)
      c.waiting.ensures c.pick-i.ensures.picks,
  c.nth_waiting.ensures.nth,
)

pub returns-else-is_saving-clause-picks : goal.returns-else-is_saving-clause-picks
returns-else-is_saving-clause-picks g c =
    let test : ℕ → Bool = λ k. not (ahead_in c.args.core.now k) in
    let all : (k : ℕ) → test k ≡ true =
    λ k. ap not (c.is_saving.ensures.none c.if-is_saving.false k) in
    let below : c.pick.result < enabled_in c.args.core.now =
    subst (λ (n : ℕ). c.pick.result < n) c.enabled.ensures c.pick.ensures.below in (
      c.pick.result,
      subst (λ (n : ℕ). g.T.Turns.picks c.args.turns.now n c.pick.result c.pick.new.self)
          (c.enabled.ensures ∙ sym (all_counted test (enabled_in c.args.core.now) all))
          c.pick.ensures.picks,
      each_there test (enabled_in c.args.core.now) c.pick.result all below,
    )

pub returns-else-is_saving-clause-waits : goal.returns-else-is_saving-clause-waits
returns-else-is_saving-clause-waits g c =
    c.is_saving.ensures.none c.if-is_saving.false c.pick.result
