-- What is kept while numbers are put in order.
use Rattle.std.specs.Prelude.{◌≡◌, ℕ, ◌==◌, nat_lt, Bool, true, not, ◌&&◌, ◌||◌, List, [], slice_index_or}
use Rattle.std.specs.List.{list_any}

-- whether a list has a number
abbrev pub has : List ℕ → ℕ → Bool
has xs k = list_any (λ x. x == k) xs

-- a number's list
abbrev pub row : List (List ℕ) → ℕ → List ℕ
row rows k = slice_index_or rows k []

-- whether a number's list has another
abbrev pub links : List (List ℕ) → ℕ → ℕ → Bool
links rows a b = has (row rows a) b

-- what rows say that hold, per number, those that must stand before it
abbrev pub before_by : List (List ℕ) → ℕ → ℕ → Bool
before_by rows a b = links rows b a

-- what rows say that hold, per number, those before which it must stand
abbrev pub after_by : List (List ℕ) → ℕ → ℕ → Bool
after_by rows a b = links rows a b

-- rows hold, per number, those that must stand before it
abbrev pub HoldsBefore : (ℕ → ℕ → Bool) → List (List ℕ) → Type 0
HoldsBefore before rows = (a b : ℕ) → links rows b a ≡ before a b

-- rows hold, per number, those before which it must stand
abbrev pub HoldsAfter : (ℕ → ℕ → Bool) → List (List ℕ) → Type 0
HoldsAfter before rows = (a b : ℕ) → links rows a b ≡ before a b

-- what was said before, and one pair
abbrev pub with_pair : (ℕ → ℕ → Bool) → ℕ → ℕ → ℕ → ℕ → Bool
with_pair before first second a b = before a b || (first == a && second == b)

-- the same, where both numbers lie below a count
abbrev pub with_pair_within : ℕ → (ℕ → ℕ → Bool) → ℕ → ℕ → ℕ → ℕ → Bool
with_pair_within count before first second a b =
    before a b || ((first == a && second == b) && (nat_lt a count && nat_lt b count))

-- whether a number is there and not marked
abbrev pub is_left : List Bool → ℕ → Bool
is_left marks k = not (slice_index_or marks k true)

-- a number for which another, without mark, stands in its list
abbrev pub IsBlocked : List Bool → List (List ℕ) → ℕ → Type 0
IsBlocked marks rows k = (w : ℕ) × (is_left marks w ≡ true) × (links rows k w ≡ true)

-- rows keep, of numbers without mark, what they had
abbrev pub KeepsLeft : List Bool → (old new : List (List ℕ)) → Type 0
KeepsLeft marks old new = (a b : ℕ) → is_left marks a ≡ true → links new b a ≡ links old b a

-- rows get nothing new
abbrev pub GetsNone : (old new : List (List ℕ)) → Type 0
GetsNone old new = (a b : ℕ) → links new b a ≡ true → links old b a ≡ true
