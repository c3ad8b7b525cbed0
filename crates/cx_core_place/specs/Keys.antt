-- The order of the places along a way.
use Rattle.std.specs.Prelude.{ℕ, ◌<◌, ◌≤◌, ◌↔◌}
use Rattle.cx_plan.specs.Setups.{Setup}
use Rattle.cx_flat.specs.Code.{code, analysis_place}
use Rattle.cx_flat.specs.Flats.{Control}
use Rattle.cx_flat.specs.Ways.{key, Less, Scalars, way_from, WayEnds, most_operations, most_after, at_place}

-- up to the last operation a place is before another one exactly where it comes after fewer
-- operations
abbrev pub InOrder : (setup : Setup) (scalars : Scalars) (first : Control) (count : ℕ) → Type 0
InOrder setup scalars first count =
    (m n : ℕ) → m ≤ count → n ≤ count
    → Less (key (way_from setup (code setup) scalars m first))
    (key (way_from setup (code setup) scalars n first)) ↔ (m < n)

-- each way of a run
pub record PlacesInOrder (setup : Setup) : Type 0 where
  pub whole : (scalars : Scalars)
      (way : WayEnds setup (at_place 0 0) (most_operations setup) scalars)
      → InOrder setup scalars (at_place 0 0) way.count
  pub continued : (c : ℕ) (scalars : Scalars)
      (way : WayEnds setup (at_place (analysis_place setup) c) (most_after setup c) scalars)
      → InOrder setup scalars (at_place (analysis_place setup) c) way.count
