-- A call alone, or one and its SYNC in a sequence.
use Rattle.std.proofs.Common.{true, refl, ◌∙◌}
use Rattle.cx_order.proofs.SizeLaws.{called}
use Rattle.cx_order.proofs.sizes.call_sizes.Goals as goal

pub returns-then-synced : goal.returns-then-synced
returns-then-synced c = λ vars path k is. called true vars path k (is ∙ c.if-synced.true) _ refl
