-- none of the bins that were passed has the name
use Rattle.std.proofs.Common.{◌≡◌, ℕ, ◌<◌, false, [], get_or}
use Rattle.cx_text.specs.Lexemes.{same_name}
use Rattle.cx_order_entries.specs.Bins.{plain}
use Rattle.cx_plan.specs.Lookups.{bin_names}
use Rattle.cx_order_entries.proofs.bins.bin_of.Given as goal

abbrev pub invariant-loop-bin : goal.invariant-loop-bin
invariant-loop-bin l = (k : ℕ) → k < l.bin
    → same_name (plain l.name) (get_or bin_names k []) ≡ false
