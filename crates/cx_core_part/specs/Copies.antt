-- The items of a part: copies of those that are steered, with their parameters in an iteration.
use Rattle.std.specs.Prelude.{ℕ, min, ◌==◌, ◌||◌, ◌&&◌, nat_le, nat_lt, Bool, true, false, List, [], ◌∷◌, map, length, Option, Some, None, slice_index_or, if◌then◌else◌}
use Rattle.std.specs.List.{range_with_len}
use Rattle.cx_plan.specs.declared.item.Item.{Item}
use Rattle.cx_plan.specs.declared.steered.Steered.{Steered}
use Rattle.cx_plan.specs.Lookups.{no_item}
use Rattle.cx_plan.specs.Setups.{Setup}
use Rattle.cx_plan.specs.Steering.{steered}

-- some steer is one of item k
abbrev pub is_steered : List Steered → ℕ → Bool
is_steered [] k = false
is_steered (s ∷ ss) k = (s.item == k) || is_steered ss k

-- the copy of item k in an iteration; none where nothing steers it
abbrev pub copied : List Steered → (k n : ℕ) → Item → Option Item
copied steers k n x =
    if is_steered steers k then Some (record x { params = steered steers k n x.params }) else None

abbrev pub copy_of : List Steered → List Item → (n k : ℕ) → Option Item
copy_of steers items n k = copied steers k n (slice_index_or items k no_item)

-- the copies of all items, by their numbers
abbrev pub copies_of : List Steered → List Item → ℕ → List (Option Item)
copies_of steers items n = map (copy_of steers items n) (range_with_len 0 (length items))

-- none at all where nothing is steered
abbrev pub if_steered : List Steered → List (Option Item) → List (Option Item)
if_steered [] copies = []
if_steered (s ∷ ss) copies = copies

abbrev pub items_at : Setup → ℕ → List (Option Item)
items_at setup n = if_steered setup.steers (copies_of setup.steers setup.items n)

-- ---- until the next steer

-- the lesser of two numbers, the second of which may be none
abbrev pub lesser : ℕ → Option ℕ → ℕ
lesser a None = a
lesser a (Some b) = min a b

-- the first iteration after iteration n at which a steer begins to count; none where none does
abbrev pub next_after : List Steered → ℕ → Option ℕ
next_after [] n = None
next_after (s ∷ ss) n = if nat_lt n s.at then Some (lesser s.at (next_after ss n))
    else next_after ss n

-- the copies of an iteration, and the first one after it at which they differ
pub record Copies : Type 0 where
  pub items : List (Option Item)
  pub iteration : ℕ
  pub next : Option ℕ

abbrev pub copies_at : Setup → ℕ → Copies
copies_at setup n =
    record { items = items_at setup n; iteration = n; next = next_after setup.steers n }

-- they are those of iteration n too
abbrev pub is_before : ℕ → Option ℕ → Bool
is_before n None = true
is_before n (Some m) = nat_lt n m

abbrev pub are_of : Copies → ℕ → Bool
are_of c n = nat_le c.iteration n && is_before n c.next

-- a part's copy of an item, or the item itself
abbrev pub picked : Option (Option Item) → Item → Item
picked None x = x
picked (Some None) x = x
picked (Some (Some y)) x = y
