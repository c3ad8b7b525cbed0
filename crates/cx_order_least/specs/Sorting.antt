-- What sorting answers.
use Rattle.std.specs.Prelude.{ℕ, List}
use Rattle.cx_order_least.specs.declared.outcome.Sorted.{Sorted}
use Rattle.cx_order_least.specs.declared.outcome.Sorted.TheVariants.{InOrder, InCycle}
use Rattle.cx_order_least.specs.Orders.{Before, IsLeastOrder, IsCycle}

-- the least order, or a cycle
abbrev pub IsSorted : Before → List ℕ → Sorted → Type 0
IsSorted before numbers (InOrder xs) = IsLeastOrder before numbers xs
IsSorted before numbers (InCycle xs) = IsCycle before xs
