-- those that were passed
use Rattle.std.proofs.Common.{◌≡◌, ℕ, ◌||◌, take}
use Rattle.cx_order_least.specs.Links.{has}
use Rattle.cx_order_least.proofs.candidates.insert_all.Given as goal

abbrev pub invariant-numbers : goal.invariant-numbers
invariant-numbers l = (k : ℕ)
    → has l.candidates k ≡ (has l.fn.candidates k || has (take l.number-index l.numbers) k)
