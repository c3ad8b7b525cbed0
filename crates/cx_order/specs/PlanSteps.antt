-- What is made while a plan is built.
use Rattle.std.specs.Prelude.{◌≡◌, ℕ, zero, suc, ◌<◌, ◌≤◌, ◌+◌, nat_lt, codes, List, [], ◌∷◌, ◌++◌, map, filter_map, length, slice_get, Option, Some, None, IfSome, if◌then◌else◌}
use Rattle.std.specs.List.{flat_map}
use Rattle.cx_plan.specs.declared.item.Item.{Item}
use Rattle.cx_plan.specs.declared.tree.Tree.{Tree, Seq}
use Rattle.cx_order_entries.specs.declared.placement.Placed.{Placed}
use Rattle.cx_order.specs.declared.planning.Source.{Source}
use Rattle.cx_order.specs.declared.planning.Made.{Made}
use Rattle.cx_order.specs.declared.planning.Member.{Member}
use Rattle.cx_order.specs.declared.planning.Planned.{Planned}
use Rattle.cx_plan.specs.Lookups.{bin_name, run_bin_count}
use Rattle.cx_order_entries.specs.Counted.{Entry}
use Rattle.cx_order_entries.specs.Members.{entries_of}
use Rattle.cx_order_entries.specs.Seen.{seen_entry}
use Rattle.cx_order_entries.specs.Entries.{Group, entries_at}
use Rattle.cx_order_least.specs.Links.{row}
use Rattle.cx_order_entries.specs.PlaceNumbers.{Orders, orders_by, place, place_count}
use Rattle.cx_order_entries.specs.Placement.{IsPlaced, contained}
use Rattle.cx_order.specs.Meanings.{World, names_of}
use Rattle.cx_order.specs.Plans.{Forest, Done, most_nodes, row_of, contents, trees, forest_items, calls, work_tree, item_of, bin_trees, bin_forest, forests}
use Rattle.cx_order.specs.Worlds.{world_of}
use Rattle.cx_order.specs.Texts.{line_feed, blanks, entry_text, forest_text, bin_text, schedule_text}

abbrev pub world_in : Source → World
world_in s = world_of s.context.now

abbrev pub entries_in : Source → List Entry
entries_in s = map seen_entry s.entries.now

-- what the bins contain, by the orders of these places
abbrev pub forests_in : List Entry → Placed → List Forest
forests_in es p = forests es (orders_by es p.orders)

abbrev pub orders_in : Source → Orders
orders_in s = orders_by (entries_in s) s.placed.now.orders

-- what all bins contain
abbrev pub forests_of : Source → List Forest
forests_of s = forests (entries_in s) (orders_in s)

-- the items of all bins
abbrev pub items_of : Source → List Item
items_of s = flat_map (forest_items (world_in s)) (forests_of s)

-- the entries where they stand, and what their names stand for
pub record IsSource (s : Source) : Type 0 where
  pub placed : IsPlaced (entries_in s) s.placed.now
  pub meanings : s.meanings.now ≡ map (names_of (world_in s)) (entries_in s)

-- what is known of the names of an entry is what they stand for
abbrev pub IsNamed : World → Member → Type 0
IsNamed w m = m.meaning.now ≡ names_of w (seen_entry m.entry.now)

-- one of the entries, what its names stand for, and the number of the place that it contains
pub record IsMember (s : Source) (m : Member) : Type 0 where
  pub meaning : m.meaning.now ≡ names_of (world_in s) (seen_entry m.entry.now)
  pub inside : m.inside ≡ contained (entries_in s) (seen_entry m.entry.now)
  pub within : IfSome m.inside (λ k. k < place_count (entries_in s))

-- the entries of a place in order, by the place's number
abbrev pub ordered : List Entry → List (List ℕ) → Option ℕ → List Entry
ordered es rows None = []
ordered es rows (Some k) = filter_map (λ j. slice_get (entries_at es (place es k)) j) (row rows k)

-- what an entry contains
abbrev pub inside_of : ℕ → List Entry → Orders → Entry → List ℕ → Forest
inside_of n es orders e path = if e.block.group then contents n es orders path (Group e.block.name)
    else Done

-- some entries with their contents
abbrev pub row_with : ℕ → List Entry → Orders → List ℕ → List Entry → Forest
row_with n es orders path row = row_of (inside_of n es orders) path row

-- what a place contains, by its number
abbrev pub contents_at : ℕ → List Entry → List (List ℕ) → List ℕ → Option ℕ → Forest
contents_at zero es rows path at = Done
contents_at (suc n) es rows path at = row_with n es (orders_by es rows) path (ordered es rows at)

-- what a bin contains
abbrev pub bin_forest_of : Source → ℕ → Forest
bin_forest_of s bin = bin_forest (entries_in s) (orders_in s) bin

-- what a place contains, nested at most so deep
abbrev pub place_of : Source → ℕ → List ℕ → Option ℕ → Forest
place_of s n path place = contents_at n (entries_in s) s.placed.now.orders path place

-- entries by their numbers, with their contents
abbrev pub numbers_of : Source → ℕ → List ℕ → List ℕ → Forest
numbers_of s n path numbers =
    row_with n (entries_in s) (orders_in s) path (entries_of (entries_in s) numbers)

-- an entry with its contents
abbrev pub member_of : Source → ℕ → List ℕ → Entry → Forest
member_of s n path e = row_with n (entries_in s) (orders_in s) path (e ∷ [])

-- its contents
abbrev pub contents_of : Source → ℕ → List ℕ → Entry → Forest
contents_of s n path e = inside_of n (entries_in s) (orders_in s) e path

-- a bin's line
abbrev pub bin_line : ℕ → List ℕ
bin_line b = codes "bin " ++ bin_name b ++ (if nat_lt b run_bin_count then [] else codes " not run")
    ++ line_feed

-- an entry's line
abbrev pub entry_line : World → ℕ → Entry → List ℕ
entry_line w depth e = blanks depth ++ entry_text w e ++ line_feed

-- With so many more items there are at most as many as a plan may have nodes.
abbrev pub HasRoom : Made → ℕ → Type 0
HasRoom made more = length made.items + more ≤ most_nodes

-- how many routines an entry calls, with what it contains
abbrev pub calls_of : Entry → Forest → ℕ
calls_of e inside = if e.block.group then calls inside else 1

-- Trees are made of some entries, and their items and text behind what was there.
pub record Makes (w : World) (depth : ℕ) (f : Forest) (old new : Made)
    (made : List Tree) : Type 0 where
  pub of_trees : made ≡ trees w (length old.items) f
  pub of_items : new.items ≡ old.items ++ forest_items w f
  pub of_text : new.text ≡ old.text ++ forest_text w depth f

-- A group's contents or a routine's call are made, without IF and WHILE.
pub record Works (w : World) (depth : ℕ) (e : Entry) (path : List ℕ) (inside : Forest)
    (old new : Made) (work : Tree) : Type 0 where
  pub of_work : work ≡ work_tree e.block.group path (names_of w e).sync
      (trees w (length old.items) inside) (length old.items)
  pub of_items : new.items
      ≡ old.items ++ (if e.block.group then forest_items w inside else item_of w e path ∷ [])
  pub of_text : new.text ≡ old.text ++ forest_text w depth inside

-- a bin's tree, and its items and text behind what was there
pub record MakesBin (w : World) (b : ℕ) (f : Forest) (old new : Made) (made : Tree) : Type 0 where
  pub of_tree : made ≡ Seq (trees w (length old.items) f)
  pub of_items : new.items ≡ old.items ++ forest_items w f
  pub of_text : new.text ≡ old.text ++ bin_text w b f

-- the trees of all bins, and their items and text behind what was there
pub record MakesBins (w : World) (fs : List Forest) (old new : Made)
    (made : List Tree) : Type 0 where
  pub of_trees : made ≡ bin_trees w (length old.items) fs
  pub of_items : new.items ≡ old.items ++ flat_map (forest_items w) fs
  pub of_text : new.text ≡ old.text ++ schedule_text w fs

-- the plan of all bins, with its items and its text
pub record IsPlanOf (w : World) (fs : List Forest) (p : Planned) : Type 0 where
  pub of_bins : p.plan.bins ≡ bin_trees w 0 fs
  pub of_items : p.items ≡ flat_map (forest_items w) fs
  pub of_text : p.text ≡ schedule_text w fs
