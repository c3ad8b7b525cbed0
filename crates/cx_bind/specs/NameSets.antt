-- Names in small letters, and sets of them.
use Rattle.std.specs.Prelude.{◌≡◌, ℕ, Bool, not, ◌||◌, List, [], ◌∷◌, map, find, Option, if◌then◌else◌}
use Rattle.std.specs.Char.{to_ascii_lowercase}
use Rattle.std.specs.List.{list_any}
use Rattle.std.specs.Str.{bytes_eq}
use Rattle.cx_text.specs.Bytes.{folded}

-- whether a name is there, in any case
abbrev pub has : List (List ℕ) → List ℕ → Bool
has set name = list_any (bytes_eq (folded name)) set

-- the first name that isn't there, by a test of what is there
abbrev pub first_absent : (List ℕ → Bool) → List (List ℕ) → Option (List ℕ)
first_absent there names = find (λ name. not (there name)) names

-- a name in small letters where a condition holds, else none
abbrev pub folded_if : Bool → List ℕ → List (List ℕ)
folded_if holds name = if holds then folded name ∷ [] else []

-- A set has exactly the names that a test holds of.
abbrev pub HasThose : (List ℕ → Bool) → List (List ℕ) → Type 0
HasThose test set = (name : List ℕ) → has set name ≡ test name

-- A set has the names of another, and those that a test holds of.
abbrev pub Adds : List (List ℕ) → (List ℕ → Bool) → List (List ℕ) → Type 0
Adds old test new = (name : List ℕ) → has new name ≡ (has old name || test name)
