-- Groups in groups by their numbers.
use Rattle.std.specs.Prelude.{ℕ, Bool, false, ◌&&◌, List, filter_map, length, position, slice_get, Option, Some, None, Result, Ok, Err}
use Rattle.std.specs.List.{list_any}
use Rattle.cx_text.specs.Lexemes.{same_name}
use Rattle.cx_sched.specs.declared.tree.Spot.{Spot}
use Rattle.cx_sched.specs.declared.tree.Spot.TheVariants.{At, Inside}
use Rattle.cx_order_entries.specs.declared.fault.PlaceFault.{PlaceFault}
use Rattle.cx_order_entries.specs.declared.fault.PlaceFault.TheVariants.{GroupCycle, Cycle, Memory}
use Rattle.cx_order_entries.specs.Counted.{Entry}
use Rattle.cx_order_entries.specs.Entries.{is_bin}
use Rattle.cx_order_least.specs.Orders.{IsOrder, numbers}
use Rattle.cx_order_entries.specs.PlaceNumbers.{group_names}
use Rattle.cx_order_entries.specs.Cycles.{is_inside, IsGroupCycle, NoGroupCycle}

-- the number of the group in which an entry stands
abbrev pub outer_number : List (List ℕ) → Spot → Option ℕ
outer_number groups (At name) = None
outer_number groups (Inside name) = position (same_name name) groups

-- whether a block is the one group in the other
abbrev pub puts_inside : List (List ℕ) → Entry → ℕ → ℕ → Bool
puts_inside groups e outer inner =
    e.block.group && (is_bin outer (outer_number groups e.block.spot)
    && is_bin inner (position (same_name e.block.name) groups))

-- whether one of some blocks does
abbrev pub some_inside : List (List ℕ) → List Entry → ℕ → ℕ → Bool
some_inside groups es outer inner = list_any (λ e. puts_inside groups e outer inner) es

-- names by their numbers
abbrev pub names_at : List (List ℕ) → List ℕ → List (List ℕ)
names_at groups ks = filter_map (λ k. slice_get groups k) ks

abbrev pub both_inside : List Entry → Option (List ℕ) → Option (List ℕ) → Bool
both_inside es (Some outer) (Some inner) = is_inside es outer inner
both_inside es (Some outer) None = false
both_inside es None inner = false

-- whether one group contains another, by their numbers
abbrev pub contains_at : List Entry → ℕ → ℕ → Bool
contains_at es i j = both_inside es (slice_get (group_names es) i) (slice_get (group_names es) j)

-- the groups, each before those that it contains, or a cycle, or memory is wanting
abbrev pub IsNesting : List Entry → Result (List ℕ) PlaceFault → Type 0
IsNesting es (Ok nested) =
    IsOrder (contains_at es) (numbers (length (group_names es))) nested × NoGroupCycle es
IsNesting es (Err (GroupCycle names)) = IsGroupCycle es names
IsNesting es (Err Memory) = Unit {0}
IsNesting es (Err (Cycle names)) = ⊥
