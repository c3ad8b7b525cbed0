-- Entries by the numbers of their places.
use Rattle.std.specs.Prelude.{◌≡◌, ℕ, ◌+◌, ◌<◌, ◌==◌, Bool, false, ◌&&◌, ◌||◌, List, ◌++◌, map, filter_map, length, position, slice_get, Option, Some, None, option_map, Result, Ok, Err, if◌then◌else◌}
use Rattle.std.specs.List.{All, list_any}
use Rattle.std.specs.Str.{bytes_eq}
use Rattle.cx_text.specs.Lexemes.{same_name}
use Rattle.cx_plan.specs.Lists.{once, once_behind}
use Rattle.cx_sched.specs.declared.tree.Spot.{Spot}
use Rattle.cx_sched.specs.declared.tree.Spot.TheVariants.{At, Inside}
use Rattle.cx_order_entries.specs.declared.fault.PlaceFault.{PlaceFault}
use Rattle.cx_order_entries.specs.declared.fault.PlaceFault.TheVariants.{GroupCycle, Cycle, Memory}
use Rattle.cx_order_entries.specs.declared.groups.Groups.{Groups}
use Rattle.cx_order_entries.specs.Bins.{bin_of}
use Rattle.cx_order_entries.specs.declared.counted.Entry.{Entry as LentEntry}
use Rattle.cx_order_entries.specs.Counted.{Entry}
use Rattle.cx_order_entries.specs.Seen.{seen_entries}
use Rattle.cx_order_entries.specs.Entries.{is_bin, both_before, entry_name, entries_at}
use Rattle.cx_order_least.specs.Orders.{IsLeastOrder, IsCycle, numbers}
use Rattle.cx_order_least.specs.Links.{row}
use Rattle.cx_order_entries.specs.PlaceNumbers.{group_names, place_count, place, AreLeast, orders_by}
use Rattle.cx_plan.specs.Lookups.{bin_count}
use Rattle.cx_order_entries.specs.Cycles.{IsEntryCycle}
use Rattle.cx_text.specs.Bytes.{folded}

-- the place number of a bin, or of a group among these
abbrev pub spot_number : List (List ℕ) → Spot → Option ℕ
spot_number groups (At name) = bin_of name
spot_number groups (Inside name) =
    option_map (λ k. bin_count + k) (position (same_name name) groups)

-- the names of groups as they are kept
abbrev pub texts : Groups → List (List ℕ)
texts groups = map (λ name. name.now) groups.names.items

-- the names are numbered
abbrev pub IsTied : Groups → Type 0
IsTied groups = groups.numbers ≡ map folded (texts groups)

-- Names are added that were not there, each once, as it stands first.
abbrev pub AddsNames : (old new : Groups) → List (List ℕ) → Type 0
AddsNames old new names = texts new ≡ texts old ++ once_behind same_name (texts old) names

-- the groups of some entries
pub record AreGroups (es : List Entry) (groups : Groups) : Type 0 where
  pub names : texts groups ≡ group_names es
  pub tied : IsTied groups

-- some entries by their numbers
abbrev pub entries_of : List Entry → List ℕ → List Entry
entries_of es numbers = filter_map (λ i. slice_get es i) numbers

-- some entries that are lent, by their numbers
abbrev pub picked_from : List LentEntry → List ℕ → List Entry
picked_from es numbers = entries_of (seen_entries es) numbers

-- per place number, the numbers of its entries
pub record AreMembers (es : List Entry) (rows : List (List ℕ)) : Type 0 where
  pub count : length rows ≡ place_count es
  pub entries : (k : ℕ) → k < length rows → entries_of es (row rows k) ≡ entries_at es (place es k)
  pub within : (k : ℕ) → All (λ i. i < length es) (row rows k)

-- the place number of a group's block
abbrev pub inside_of : List (List ℕ) → Entry → Option ℕ
inside_of groups e = if e.block.group
    then option_map (λ k. bin_count + k) (position (same_name e.block.name) groups) else None

-- the place number of a group by its name
abbrev pub group_place : List (List ℕ) → List ℕ → Option ℕ
group_place groups name = option_map (λ k. bin_count + k) (position (same_name name) groups)

-- ---- names with numbers

-- whether one of these names has a number
abbrev pub has_number : List (List ℕ) → List (List ℕ) → ℕ → Bool
has_number keys names k = list_any (λ name. is_bin k (position (bytes_eq (folded name)) keys)) names

-- whether an entry must run before the one of a number
abbrev pub says_before : List (List ℕ) → Option Entry → ℕ → Bool
says_before keys None k = false
says_before keys (Some e) k = has_number keys e.block.before k

-- whether an entry must run after the one of a number
abbrev pub says_after : List (List ℕ) → Option Entry → ℕ → Bool
says_after keys None k = false
says_after keys (Some e) k = has_number keys e.block.after k

-- what entries of these names say of each other, by their numbers
abbrev pub says_in : List (List ℕ) → List Entry → ℕ → ℕ → Bool
says_in keys es a b = says_before keys (slice_get es a) b || says_after keys (slice_get es b) a

-- what was said before, and what an entry of this number says
abbrev pub with_entry : List (List ℕ) → ℕ → Entry → (ℕ → ℕ → Bool) → ℕ → ℕ → Bool
with_entry keys number e before a b =
    (before a b || (a == number && has_number keys e.block.before b))
    || (has_number keys e.block.after a && b == number)

-- ---- orders

-- among some entries, by their numbers there
abbrev pub before_in : List Entry → ℕ → ℕ → Bool
before_in es i j = both_before (slice_get es i) (slice_get es j)

-- a name in small letters
abbrev pub key_name : Entry → List ℕ
key_name e = folded (entry_name e)

-- no two of some entries have one name
abbrev pub NamesDiffer : List Entry → Type 0
NamesDiffer es = once bytes_eq (map key_name es) ≡ map key_name es

-- the names of entries of these numbers
abbrev pub names_in : List Entry → List ℕ → List (List ℕ)
names_in es ks = filter_map (λ k. option_map entry_name (slice_get es k)) ks

-- an order of some entries, or a cycle among them, or memory is wanting
abbrev pub IsOrdered : List Entry → Result (List ℕ) PlaceFault → Type 0
IsOrdered es (Ok xs) = IsLeastOrder (before_in es) (numbers (length es)) xs
IsOrdered es (Err (Cycle names)) =
    (ks : List ℕ) × (IsCycle (before_in es) ks × (names ≡ names_in es ks))
IsOrdered es (Err Memory) = Unit {0}
IsOrdered es (Err (GroupCycle names)) = ⊥

-- the orders by place number
pub record AreRows (es : List Entry) (rows : List (List ℕ)) : Type 0 where
  pub count : length rows ≡ place_count es
  pub least : AreLeast es (orders_by es rows)

-- the orders at all places, or a cycle at one, or memory is wanting
abbrev pub AreOrdered : List Entry → Result (List (List ℕ)) PlaceFault → Type 0
AreOrdered es (Ok rows) = AreRows es rows
AreOrdered es (Err (Cycle names)) = IsEntryCycle es names
AreOrdered es (Err Memory) = Unit {0}
AreOrdered es (Err (GroupCycle names)) = ⊥
