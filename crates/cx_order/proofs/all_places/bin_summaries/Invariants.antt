-- what is known of the bins before one
use Rattle.std.proofs.Common.{◌≡◌, ℕ, map, length, Some}
use Rattle.std.specs.List.{slice_get}
use Rattle.cx_order.specs.declared.summary.Summary.{Summary}
use Rattle.cx_plan.specs.Lookups.{bin_name}
use Rattle.cx_order.specs.Meanings.{World, meaning}
use Rattle.cx_order_entries.specs.PlaceNumbers.{orders_by}
use Rattle.cx_order.specs.Plans.{bin_forest}
use Rattle.cx_order_entries.specs.Seen.{seen_entry}
use Rattle.cx_order.specs.Summaries.{IsSummary}
use Rattle.cx_order.proofs.all_places.bin_summaries.Given as goal

abbrev pub invariant-bins : goal.invariant-bins
invariant-bins l = record {
  size : length l.bins.items ≡ l.bin;
  known : (w : World) → l.meanings ≡ map (meaning w) (map seen_entry l.entries)
      → (b : ℕ) (s : Summary) → slice_get l.bins.items b ≡ Some s
      → IsSummary w (bin_name b)
      (bin_forest (map seen_entry l.entries) (orders_by (map seen_entry l.entries) l.placed.orders)
      b) s;
}
