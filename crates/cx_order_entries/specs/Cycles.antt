-- Cycles of groups in groups, and of entries before entries.
use Rattle.std.specs.Prelude.{◌≡◌, ℕ, Bool, true, false, ◌&&◌, List, [], ◌∷◌, filter_map, find, slice_get, bytes_eq, Option, Some, None, option_map}
use Rattle.std.specs.List.{list_any}
use Rattle.cx_text.specs.Lexemes.{among}
use Rattle.cx_order_entries.specs.Counted.{Entry}
use Rattle.cx_order_entries.specs.Entries.{Place, Group, entries_at, entry_name, is_group, block_name, before_at}
use Rattle.cx_order_least.specs.Orders.{is_cycle, IsCycle}

-- one group contains another
abbrev pub is_inside : List Entry → List ℕ → List ℕ → Bool
is_inside es outer inner = list_any (is_group inner) (entries_at es (Group outer))

-- the first group's block in the files that is one of these
abbrev pub first_group : List Entry → List (List ℕ) → Option (List ℕ)
first_group es names = option_map (λ e. e.block.name)
    (find (λ e. e.block.group && among names e.block.name) es)

abbrev pub begins_with : List (List ℕ) → Option (List ℕ) → Bool
begins_with [] name = false
begins_with (n ∷ ns) None = false
begins_with (n ∷ ns) (Some name) = bytes_eq n name

-- no group twice
abbrev pub AllDiffer : List (List ℕ) → Type 0
AllDiffer [] = Unit {0}
AllDiffer (n ∷ ns) = (among ns n ≡ false) × AllDiffer ns

-- each name as its group's first block has it
abbrev pub AreSpelled : List Entry → List (List ℕ) → Type 0
AreSpelled es [] = Unit {0}
AreSpelled es (n ∷ ns) = (block_name es n ≡ Some n) × AreSpelled es ns

-- Each group contains the next, and the last the first; the first is the one that stands first in
-- the files.
pub record IsGroupCycle (es : List Entry) (names : List (List ℕ)) : Type 0 where
  pub cycle : is_cycle (is_inside es) names ≡ true
  pub differ : AllDiffer names
  pub begins : begins_with names (first_group es names) ≡ true
  pub spelled : AreSpelled es names

abbrev pub NoGroupCycle : List Entry → Type 0
NoGroupCycle es = (names : List (List ℕ)) → is_cycle (is_inside es) names ≡ true → ⊥

-- Entries of one place by their numbers, each once and before the next and the last before the
-- first; the first has the least number.
pub record IsEntryCycle (es : List Entry) (names : List (List ℕ)) : Type 0 where
  pub place : Place
  pub numbers : List ℕ
  pub cycle : IsCycle (before_at es place) numbers
  pub named : names ≡ filter_map (λ k. option_map entry_name (slice_get (entries_at es place) k))
      numbers
