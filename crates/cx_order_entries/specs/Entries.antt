-- The entries of bins and groups: their places, names and numbers, and which must run before which.
use Rattle.std.specs.Prelude.{ℕ, ◌==◌, Bool, false, ◌&&◌, ◌||◌, List, ◌++◌, find, filter, codes, slice_get, unwrap_or, Option, Some, None, is_none, option_map, if◌then◌else◌}
use Rattle.cx_text.specs.Lexemes.{same_name, among}
use Rattle.cx_plan.specs.Lists.{first_of_each, first_again}
use Rattle.cx_sched.specs.declared.tree.Spot.{Spot}
use Rattle.cx_sched.specs.declared.tree.Spot.TheVariants.{At, Inside}
use Rattle.cx_order_entries.specs.declared.fault.EntryFault.{EntryFault}
use Rattle.cx_order_entries.specs.declared.fault.EntryFault.TheVariants.{UnknownBin, TwoNames}
use Rattle.cx_order_entries.specs.Bins.{bin_of}
use Rattle.cx_plan.specs.Lookups.{bin_name}
use Rattle.cx_order_entries.specs.Counted.{Entry}

-- a bin by its number, or a group by its name
pub data Place : Type 0 where
  Bin : ℕ → Place
  Group : List ℕ → Place

abbrev pub is_bin : ℕ → Option ℕ → Bool
is_bin b None = false
is_bin b (Some c) = b == c

-- whether an entry stands at a place
abbrev pub stands_at : Place → Spot → Bool
stands_at (Bin b) (At name) = is_bin b (bin_of name)
stands_at (Group group) (Inside name) = same_name group name
stands_at (Bin b) (Inside name) = false
stands_at (Group group) (At name) = false

-- the entries of a place; an entry's number is its place in this list
abbrev pub entries_at : List Entry → Place → List Entry
entries_at es p = filter (λ e. stands_at p e.block.spot) es

-- an entry's name is its alias, else its own name
abbrev pub entry_name : Entry → List ℕ
entry_name e = unwrap_or e.block.alias e.block.name

-- one names the other after BEFORE, or the other names the one after AFTER
abbrev pub is_before : Entry → Entry → Bool
is_before a b = among a.block.before (entry_name b) || among b.block.after (entry_name a)

abbrev pub both_before : Option Entry → Option Entry → Bool
both_before (Some a) (Some b) = is_before a b
both_before (Some a) None = false
both_before None b = false

-- by their numbers at a place
abbrev pub before_at : List Entry → Place → ℕ → ℕ → Bool
before_at es p i j = both_before (slice_get (entries_at es p) i) (slice_get (entries_at es p) j)

-- ---- faults

abbrev pub unknown_bin : Spot → Option EntryFault
unknown_bin (At name) = if is_none (bin_of name) then Some (UnknownBin name) else None
unknown_bin (Inside name) = None

-- the first entry whose bin isn't there
abbrev pub bin_fault : List Entry → Option EntryFault
bin_fault es = first_of_each (λ e. unknown_bin e.block.spot) es

-- whether an entry is the group of a name
abbrev pub is_group : List ℕ → Entry → Bool
is_group name e = e.block.group && same_name e.block.name name

-- a group's name as its first block has it, letters' case included
abbrev pub block_name : List Entry → List ℕ → Option (List ℕ)
block_name es name = option_map (λ e. e.block.name) (find (is_group name) es)

-- the same, or the name as it is here where there is no block
abbrev pub group_text : List Entry → List ℕ → List ℕ
group_text es name = unwrap_or (block_name es name) name

abbrev pub bin_text : List ℕ → Option ℕ → List ℕ
bin_text name None = name
bin_text name (Some b) = bin_name b

-- the name of the bin or group in which an entry stands
abbrev pub spot_text : List Entry → Spot → List ℕ
spot_text es (At name) = bin_text name (bin_of name)
spot_text es (Inside name) = group_text es name

abbrev pub same_bin : Option ℕ → Option ℕ → Bool
same_bin None b = false
same_bin (Some a) b = is_bin a b

abbrev pub same_spot : Spot → Spot → Bool
same_spot (At a) (At b) = same_bin (bin_of a) (bin_of b)
same_spot (Inside a) (Inside b) = same_name a b
same_spot (At a) (Inside b) = false
same_spot (Inside a) (At b) = false

abbrev pub clash : Entry → Entry → Bool
clash a b = same_spot a.block.spot b.block.spot && same_name (entry_name a) (entry_name b)

-- the fault of an entry of one name with another
abbrev pub two_names : List Entry → Entry → EntryFault
two_names es e = TwoNames (spot_text es e.block.spot ++ codes "/" ++ entry_name e)

-- the first entry that has the name of one before it in the same bin or group
abbrev pub names_fault : List Entry → Option EntryFault
names_fault es = option_map (two_names es) (first_again clash es)
