-- Places by number: the bins first, then the groups.
use Rattle.std.specs.Prelude.{ℕ, ◌+◌, ◌-◌, nat_lt, List, [], ◌++◌, map, filter, filter_map, length, position, slice_index_or, Option, Some, None, option_map, if◌then◌else◌}
use Rattle.cx_text.specs.Lexemes.{same_name}
use Rattle.cx_plan.specs.Lists.{once}
use Rattle.cx_sched.specs.declared.tree.Spot.{Spot}
use Rattle.cx_sched.specs.declared.tree.Spot.TheVariants.{At, Inside}
use Rattle.cx_plan.specs.Lookups.{bin_count}
use Rattle.cx_order_entries.specs.Counted.{Entry}
use Rattle.cx_order_entries.specs.Entries.{Place, Bin, Group, entries_at, before_at}
use Rattle.cx_order_least.specs.Orders.{IsLeastOrder, numbers}
use Rattle.cx_order_least.specs.Links.{row}

abbrev pub inside_name : Spot → Option (List ℕ)
inside_name (At name) = None
inside_name (Inside name) = Some name

-- the names of groups' blocks
abbrev pub block_names : List Entry → List (List ℕ)
block_names es = map (λ e. e.block.name) (filter (λ e. e.block.group) es)

-- the names of groups after IN
abbrev pub spot_names : List Entry → List (List ℕ)
spot_names es = filter_map (λ e. inside_name e.block.spot) es

-- each group's name once, as it stands first: those of groups' blocks, then those after IN
abbrev pub group_names : List Entry → List (List ℕ)
group_names es = once same_name (block_names es ++ spot_names es)

abbrev pub place_count : List Entry → ℕ
place_count es = bin_count + length (group_names es)

-- the place of a number
abbrev pub place : List Entry → ℕ → Place
place es k = if nat_lt k bin_count then Bin k
    else Group (slice_index_or (group_names es) (k - bin_count) [])

abbrev pub group_number : List Entry → List ℕ → Option ℕ
group_number es name = option_map (λ k. bin_count + k) (position (same_name name) (group_names es))

-- the number of a place
abbrev pub place_number : List Entry → Place → Option ℕ
place_number es (Bin b) = if nat_lt b bin_count then Some b else None
place_number es (Group name) = group_number es name

-- ---- orders

-- per place the numbers of its entries in order
abbrev pub Orders : Type 0
Orders = Place → List ℕ

-- in each place the order is the least
abbrev pub AreLeast : List Entry → Orders → Type 0
AreLeast es orders = (p : Place)
    → IsLeastOrder (before_at es p) (numbers (length (entries_at es p))) (orders p)

abbrev pub row_or_none : List (List ℕ) → Option ℕ → List ℕ
row_or_none rows None = []
row_or_none rows (Some k) = row rows k

-- the orders that rows by place number give
abbrev pub orders_by : List Entry → List (List ℕ) → Orders
orders_by es rows p = row_or_none rows (place_number es p)
