-- those that were passed
use Rattle.std.proofs.Common.{◌≡◌, ℕ, ltb}
use Rattle.cx_order_least.specs.Links.{has}
use Rattle.cx_order_least.proofs.candidates.all_candidates.Given as goal

abbrev pub invariant-numbers : goal.invariant-numbers
invariant-numbers l = (k : ℕ) → has l.candidates k ≡ ltb k l.number
