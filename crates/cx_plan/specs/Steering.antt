-- The parameters of items by iteration: from a steer's iteration on a parameter has its number.
use Rattle.std.specs.Prelude.{ℕ, ◌<◌, ◌≤◌, ◌==◌, ◌&&◌, nat_le, Bool, ℤ, List, [], ◌∷◌, length, slice_set, if◌then◌else◌}
use Rattle.cx_plan.specs.declared.item.Item.{Item}
use Rattle.cx_plan.specs.declared.steered.Steered.{Steered}
use Rattle.cx_plan.specs.Setups.{Setup}
use Rattle.cx_plan.specs.Lookups.{item}

-- a steer is one of item k that counts at iteration n
abbrev pub counts_at : (k n : ℕ) → Steered → Bool
counts_at k n s = (s.item == k) && nat_le s.at n

abbrev pub set_by : (k n : ℕ) → Steered → List ℤ → List ℤ
set_by k n s params = if counts_at k n s then slice_set params s.slot s.value else params

-- the parameters of item k at iteration n: of several steers of one the last counts
abbrev pub steered : List Steered → (k n : ℕ) → List ℤ → List ℤ
steered [] k n params = params
steered (s ∷ ss) k n params = steered ss k n (set_by k n s params)

-- an item as it is in an iteration
abbrev pub item_at : Setup → (k n : ℕ) → Item
item_at setup k n = record (item setup k)
    { params = steered setup.steers k n (item setup k).params }

-- a steer names a parameter of an item, from an iteration behind the start
pub record IsSteer (setup : Setup) (s : Steered) : Type 0 where
  pub later : 1 ≤ s.at
  pub there : s.item < length setup.items
  pub named : s.slot < length (item setup s.item).params
