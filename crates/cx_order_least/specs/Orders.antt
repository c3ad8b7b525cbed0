-- Orders of numbers in which some must stand before others, and cycles.
use Rattle.std.specs.Prelude.{◌≡◌, ◌⊎◌, ℕ, zero, suc, ◌+◌, ◌<◌, ◌≤◌, ◌==◌, nat_le, nat_lt, Bool, true, false, not, ◌&&◌, ◌||◌, List, [], ◌∷◌, if◌then◌else◌}
use Rattle.std.specs.List.{list_all, list_any}

-- whether one must stand before another
abbrev pub Before : Type 0
Before = ℕ → ℕ → Bool

-- how often a number stands in a list
abbrev pub count : ℕ → List ℕ → ℕ
count k [] = 0
count k (x ∷ xs) = (if x == k then 1 else 0) + count k xs

-- each number as often in the one as in the other
abbrev pub SameNumbers : List ℕ → List ℕ → Type 0
SameNumbers xs ys = (k : ℕ) → count k xs ≡ count k ys

-- none that stands at a place or behind it must stand before the one at that place
abbrev pub may_follow : Before → ℕ → List ℕ → Bool
may_follow before x xs = list_all (λ y. not (before y x)) xs

abbrev pub Respects : Before → List ℕ → Type 0
Respects before [] = Unit {0}
Respects before (x ∷ xs) = (may_follow before x (x ∷ xs) ≡ true) × Respects before xs

-- an order of some numbers
pub record IsOrder (before : Before) (numbers xs : List ℕ) : Type 0 where
  pub same : SameNumbers numbers xs
  pub respects : Respects before xs

-- not after another list, compared number by number
abbrev pub IsAtMost : List ℕ → List ℕ → Type 0
IsAtMost [] ys = Unit {0}
IsAtMost (x ∷ xs) [] = ⊥
IsAtMost (x ∷ xs) (y ∷ ys) = (x < y) ⊎ ((x ≡ y) × IsAtMost xs ys)

-- the least of all orders
pub record IsLeastOrder (before : Before) (numbers xs : List ℕ) : Type 0 where
  pub order : IsOrder before numbers xs
  pub least : (ys : List ℕ) → IsOrder before numbers ys → IsAtMost xs ys

-- each must stand before the next, and the last before some end
abbrev pub leads : {X : Type 0} → (X → X → Bool) → X → List X → X → Bool
leads before x [] end = before x end
leads before x (y ∷ ys) end = before x y && leads before y ys end

-- and the last before the first
abbrev pub is_cycle : {X : Type 0} → (X → X → Bool) → List X → Bool
is_cycle before [] = false
is_cycle before (x ∷ xs) = leads before x xs x

-- each must stand before the next
abbrev pub IsLinked : Before → ℕ → List ℕ → Type 0
IsLinked before x [] = Unit {0}
IsLinked before x (y ∷ ys) = before x y ≡ true

abbrev pub IsChain : Before → List ℕ → Type 0
IsChain before [] = Unit {0}
IsChain before (x ∷ xs) = IsLinked before x xs × IsChain before xs

-- the first is the least
abbrev pub begins_least : List ℕ → Bool
begins_least [] = false
begins_least (x ∷ xs) = list_all (λ y. nat_le x y) xs

-- A cycle that goes through each of its numbers once and begins with the least.
pub record IsCycle (before : Before) (xs : List ℕ) : Type 0 where
  pub cycle : is_cycle before xs ≡ true
  pub once : (k : ℕ) → count k xs ≤ 1
  pub least : begins_least xs ≡ true

-- what some pairs say of two numbers
abbrev pub pair_before : List (ℕ × ℕ) → Before
pair_before pairs a b = list_any (λ pair. pair.0 == a && pair.1 == b) pairs

-- the same for numbers below a count alone
abbrev pub pair_within : ℕ → List (ℕ × ℕ) → Before
pair_within count pairs a b = pair_before pairs a b && (nat_lt a count && nat_lt b count)

-- pairs say exactly this
abbrev pub Says : Before → List (ℕ × ℕ) → Type 0
Says before pairs = (a b : ℕ) → pair_before pairs a b ≡ before a b

-- pairs say what those before them said, and more
abbrev pub AddsPairs : (old new : List (ℕ × ℕ)) → Before → Type 0
AddsPairs old new more = (a b : ℕ) → pair_before new a b ≡ (pair_before old a b || more a b)

-- the numbers from one on, so many
abbrev pub numbers_from : ℕ → ℕ → List ℕ
numbers_from from zero = []
numbers_from from (suc n) = from ∷ numbers_from (from + 1) n

abbrev pub numbers : ℕ → List ℕ
numbers n = numbers_from 0 n
