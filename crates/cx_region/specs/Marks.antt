-- Marks of items by their numbers.
use Rattle.std.specs.Prelude.{ℕ, ◌≡◌, ◌<◌, ◌==◌, Bool, false, ◌||◌, List, length, slice_index_or}
use Rattle.std.specs.List.{list_any}
use Rattle.cx_plan.specs.declared.job.Job.{Job}
use Rattle.cx_plan.specs.Setups.{setup_of}
use Rattle.cx_plan.specs.Regions.{run_items}
use Rattle.cx_plan.specs.Lists.{is_marked}

abbrev pub is_among_items : List ℕ → ℕ → Bool
is_among_items items k = list_any (λ i. i == k) items

-- these items are marked now, where they are there, and those that were
pub record Marks (items : List ℕ) (old new : List Bool) : Type 0 where
  pub same_length : length new ≡ length old
  pub marked : (k : ℕ) → k < length old
      → is_marked new k ≡ (is_marked old k || is_among_items items k)

-- an item of the job is marked where a bin that is run calls it
abbrev pub AreRunItems : Job → List Bool → Type 0
AreRunItems job marks = (k : ℕ) → k < length job.items
    → is_marked marks k ≡ is_among_items (run_items (setup_of job)) k
