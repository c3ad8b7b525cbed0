-- Where entries stand, by numbers, and what placing them answers.
use Rattle.std.specs.Prelude.{◌≡◌, ℕ, ◌<◌, Bool, List, [], map, length, slice_index_or, All, Option, None, Result, Ok, Err, if◌then◌else◌}
use Rattle.cx_order_entries.specs.declared.fault.PlaceFault.{PlaceFault}
use Rattle.cx_order_entries.specs.declared.fault.PlaceFault.TheVariants.{GroupCycle, Cycle, Memory}
use Rattle.cx_order_entries.specs.declared.placement.Placed.{Placed}
use Rattle.cx_order_entries.specs.Counted.{Entry}
use Rattle.cx_order_entries.specs.Entries.{entries_at}
use Rattle.cx_order_least.specs.Orders.{IsOrder, numbers}
use Rattle.cx_order_least.specs.Links.{row}
use Rattle.cx_order_entries.specs.PlaceNumbers.{group_names, group_number, place, place_count, AreLeast, orders_by}
use Rattle.cx_order_entries.specs.Cycles.{is_inside, IsGroupCycle, NoGroupCycle, IsEntryCycle}
use Rattle.cx_order_entries.specs.Members.{entries_of}

-- the place that an entry contains
abbrev pub contained : List Entry → Entry → Option ℕ
contained es e = if e.block.group then group_number es e.block.name else None

abbrev pub name_of_group : List Entry → ℕ → List ℕ
name_of_group es g = slice_index_or (group_names es) g []

-- whether a group contains another one
abbrev pub group_inside : List Entry → ℕ → ℕ → Bool
group_inside es g h = is_inside es (name_of_group es g) (name_of_group es h)

pub record IsPlaced (es : List Entry) (p : Placed) : Type 0 where
  pub member_rows : length p.members ≡ place_count es
  pub order_rows : length p.orders ≡ place_count es
  pub members : (k : ℕ) → k < place_count es
      → entries_of es (row p.members k) ≡ entries_at es (place es k)
  pub within : (k : ℕ) → All (λ i. i < length es) (row p.members k)
  pub inside : p.inside ≡ map (contained es) es
  pub nested : IsOrder (group_inside es) (numbers (length (group_names es))) p.nested

-- the places and the least orders, or a cycle of groups, or else one of entries, or memory is
-- wanting
abbrev pub ArePlaced : List Entry → Result Placed PlaceFault → Type 0
ArePlaced es (Ok p) = IsPlaced es p × (NoGroupCycle es × AreLeast es (orders_by es p.orders))
ArePlaced es (Err (GroupCycle names)) = IsGroupCycle es names
ArePlaced es (Err (Cycle names)) = NoGroupCycle es × IsEntryCycle es names
ArePlaced es (Err Memory) = Unit {0}
