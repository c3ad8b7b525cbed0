-- those that were passed are marked
use Rattle.std.proofs.Common.{◌≡◌, ℕ, ◌<◌, false}
use Rattle.cx_order_least.specs.Links.{is_left}
use Rattle.cx_order_least.proofs.marks.first_left.Given as goal

abbrev pub invariant-loop-number : goal.invariant-loop-number
invariant-loop-number l = (k : ℕ) → k < l.number → is_left l.marks k ≡ false
