-- A candidate is a number.
use Rattle.std.proofs.Common.{◌≡◌, ◌<◌, sym, subst, true}
use Rattle.cx_order_least.specs.Links.{has}
use Rattle.cx_order_least.proofs.CandidateLaws.{has-first}
use Rattle.cx_order_least.proofs.candidates.next_free.Goals as goal

pub blocker-requires : goal.blocker-requires
blocker-requires c =
    let x = c.in-Some.number in
    let there = subst (λ ks. has ks x ≡ true) (sym c.in-Some.ensures.removed)
    (has-first x c.pop_first.new.self) in
    subst (λ n. x < n) (sym c.taken.invariant.same) (c.requires x (c.taken.invariant.less x there))
