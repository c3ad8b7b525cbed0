-- What is reached along edges between numbers, as a least set, and the search for one more.
use Rattle.std.specs.Prelude.{◌≡◌, ◌↔◌, ℕ, ◌==◌, nat_lt, Bool, true, false, not, ◌&&◌, ◌||◌, List, slice_index_or}
use Rattle.std.specs.List.{list_any, list_all}
use Rattle.cx_plan.specs.Lists.{is_marked}

abbrev pub Edge : Type 0
Edge = ℕ × ℕ

abbrev pub has_edge : List Edge → ℕ → ℕ → Bool
has_edge edges a b = list_any (λ e. e.0 == a && e.1 == b) edges

-- an edge, or an edge on from what is reached
pub data Reach (edges : List Edge) : ℕ → ℕ → Type 0 where
  edge : (a b : ℕ) → has_edge edges a b ≡ true → Reach edges a b
  onward : (a b c : ℕ) → Reach edges a b → has_edge edges b c ≡ true → Reach edges a c

-- what is marked is what is reached from a number
abbrev pub MarksReach : List Edge → ℕ → List Bool → Type 0
MarksReach edges from marks = (b : ℕ) → (is_marked marks b ≡ true) ↔ Reach edges from b

-- an edge from the start or from a marked number to one that is not marked
abbrev pub is_new : ℕ → List Bool → Edge → Bool
is_new from marks e = (e.0 == from || is_marked marks e.0) && not (is_marked marks e.1)

-- each edge ends below a number
abbrev pub ends_below : ℕ → List Edge → Bool
ends_below count edges = list_all (λ e. nat_lt e.1 count) edges
