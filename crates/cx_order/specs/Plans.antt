-- The plan: per bin its entries in order, each group with its contents.
use Rattle.std.specs.Prelude.{ℕ, zero, suc, Bool, ◌+◌, ◌^◌, ◌-◌, nat_lt, min, List, [], ◌∷◌, ◌++◌, map, filter_map, codes, slice_get, Option, Some, None, option_map, if◌then◌else◌}
use Rattle.std.specs.List.{range_with_len}
use Rattle.cx_plan.specs.Lists.{or_else, first_of_each}
use Rattle.cx_plan.specs.Sizes.{all_nodes, greatest_depth}
use Rattle.cx_plan.specs.declared.variable.VarId.{VarId}
use Rattle.cx_plan.specs.declared.item.ItemKind.TheVariants.{Cell}
use Rattle.cx_plan.specs.declared.item.Item.{Item}
use Rattle.cx_plan.specs.declared.tree.Tree.{Tree, Seq, Call, Sync, If, While}
use Rattle.cx_order.specs.declared.fault.OrderFault.{OrderFault}
use Rattle.cx_order.specs.declared.fault.OrderFault.TheVariants.{Scope, Limit}
use Rattle.cx_plan.specs.Lookups.{bin_name}
use Rattle.cx_order_entries.specs.Counted.{Entry}
use Rattle.cx_order_entries.specs.Entries.{Place, Bin, Group, entries_at, entry_name}
use Rattle.cx_order_entries.specs.PlaceNumbers.{Orders, place_count}
use Rattle.cx_plan.specs.Lookups.{bin_count}
use Rattle.cx_order.specs.Storage.{error_of}
use Rattle.cx_order.specs.declared.meaning.Meaning.{Meaning}
use Rattle.cx_order.specs.Meanings.{World, meaning, names_of}
use Rattle.cx_order.specs.Files.{thorn_name}

-- Entries in order: an entry with its path, its contents, and the entries after it.
pub data Forest : Type 0 where
  Done : Forest
  Then : Entry → List ℕ → Forest → Forest → Forest

-- the entries of a place in order
abbrev pub in_order : List Entry → Orders → Place → List Entry
in_order es orders p = filter_map (λ k. slice_get (entries_at es p) k) (orders p)

abbrev pub path_of : List ℕ → Entry → List ℕ
path_of path e = path ++ codes "/" ++ entry_name e

-- each of some entries, with its contents
abbrev pub row_of : (Entry → List ℕ → Forest) → List ℕ → List Entry → Forest
row_of inside path [] = Done
row_of inside path (e ∷ es) =
    Then e (path_of path e) (inside e (path_of path e)) (row_of inside path es)

-- The entries of a place, nested at most so deep. Without a cycle of groups the number of places is
-- deep enough.
abbrev pub contents : ℕ → List Entry → Orders → List ℕ → Place → Forest
contents zero es orders path p = Done
contents (suc n) es orders path p =
    row_of (λ e inner. if e.block.group then contents n es orders inner (Group e.block.name)
    else Done) path (in_order es orders p)

abbrev pub bin_forest : List Entry → Orders → ℕ → Forest
bin_forest es orders b = contents (place_count es) es orders (bin_name b) (Bin b)

-- one per bin
abbrev pub forests : List Entry → Orders → List Forest
forests es orders = map (bin_forest es orders) (range_with_len 0 bin_count)

-- ---- names that stand for nothing

-- the first entry with one: an entry goes before its contents
abbrev pub forest_fault : World → Forest → Option OrderFault
forest_fault w Done = None
forest_fault w (Then e path inside rest) =
    or_else (option_map (λ f. Scope path f) (error_of (meaning w e)))
    (or_else (forest_fault w inside) (forest_fault w rest))

abbrev pub entry_fault : World → List Forest → Option OrderFault
entry_fault w fs = first_of_each (forest_fault w) fs

-- ---- items and trees

-- The item of a routine's entry. Which object it is, its kind and its parameters are not known yet.
abbrev pub item_of : World → Entry → List ℕ → Item
item_of w e path =
    record {
      thorn = thorn_name w.thorns e.thorn;
      name = e.block.name;
      path = path;
      kind = Cell;
      routine = 0;
      reads = (names_of w e).reads;
      writes = (names_of w e).writes;
      params = [];
    }

-- the routines that are called, in the order of the trees, once for each place
abbrev pub forest_items : World → Forest → List Item
forest_items w Done = []
forest_items w (Then e path inside rest) =
    (if e.block.group then forest_items w inside else item_of w e path ∷ []) ++ forest_items w rest

abbrev pub calls : Forest → ℕ
calls Done = 0
calls (Then e path inside rest) = (if e.block.group then calls inside else 1) + calls rest

-- a SYNC, unless it has no variable
abbrev pub sync_tree : List ℕ → List VarId → List Tree
sync_tree path [] = []
sync_tree path (v ∷ vs) = Sync (v ∷ vs) path ∷ []

-- a call, and its SYNC behind it
abbrev pub call_tree : List ℕ → List VarId → ℕ → Tree
call_tree path [] k = Call k
call_tree path (v ∷ vs) k = Seq (Call k ∷ Sync (v ∷ vs) path ∷ [])

-- a group's contents, and its SYNC behind them
abbrev pub group_tree : List ℕ → List VarId → List Tree → Tree
group_tree path vars contents = Seq (contents ++ sync_tree path vars)

-- a group with these contents, or a call of this number
abbrev pub work_tree : Bool → List ℕ → List VarId → List Tree → ℕ → Tree
work_tree group path vars contents k = if group then group_tree path vars contents
    else call_tree path vars k

abbrev pub with_while : List ℕ → Option VarId → Tree → Tree
with_while path None tree = tree
with_while path (Some v) tree = While v path tree

abbrev pub with_if : List ℕ → Option VarId → Tree → Tree
with_if path None tree = tree
with_if path (Some v) tree = If v path tree

-- WHILE around an entry's work and SYNC, and IF outside
abbrev pub wrapped : Meaning → List ℕ → Tree → Tree
wrapped m path work = with_if path m.test (with_while path m.turn work)

-- the trees of some entries, whose first item has this number
abbrev pub trees : World → ℕ → Forest → List Tree
trees w k Done = []
trees w k (Then e path inside rest) =
    wrapped (names_of w e) path
    (work_tree e.block.group path (names_of w e).sync (trees w k inside) k)
    ∷ trees w (k + (if e.block.group then calls inside else 1)) rest

abbrev pub bin_trees : World → ℕ → List Forest → List Tree
bin_trees w k [] = []
bin_trees w k (f ∷ fs) = Seq (trees w k f) ∷ bin_trees w (k + calls f) fs

-- ---- limits

-- a number that 64 bits do not hold is told as their greatest
abbrev pub over : List ℕ → ℕ → ℕ → Option OrderFault
over what number limit = if nat_lt limit number then Some (Limit what (min number (2 ^ 64 - 1)))
    else None

-- a plan has at most so many nodes, and goes at most so deep
abbrev pub most_nodes : ℕ
most_nodes = 4096

abbrev pub most_depth : ℕ
most_depth = 32

abbrev pub limit_fault : List Tree → Option OrderFault
limit_fault ts = or_else (over (codes "depth") (greatest_depth ts) most_depth)
    (over (codes "nodes") (all_nodes ts) most_nodes)

-- first names that stand for nothing, then limits
abbrev pub plan_fault : World → List Forest → Option OrderFault
plan_fault w fs = or_else (entry_fault w fs) (limit_fault (bin_trees w 0 fs))
