-- Places in lists, by names in small letters.
use Rattle.std.specs.Prelude.{◌≡◌, ℕ, Bool, List, Option, Some, find, count_by, nat_lt, slice_get, if◌then◌else◌}
use Rattle.std.specs.Map.{lookup}
use Rattle.std.specs.Option.{option_and_then}
use Rattle.std.specs.Str.{bytes_eq}
use Rattle.indexmap.specs.IndexMap.{insert_entry}
use Rattle.cx_text.specs.Lexemes.{same_name}
use Rattle.cx_bind.specs.declared.known.Known.{Known}
use Rattle.cx_bind.specs.NameSets.{HasThose}
use Rattle.cx_bind.specs.Selecting.{Place, is_place_of}
use Rattle.cx_text.specs.Bytes.{folded}

-- the place of a name, in any case
abbrev pub place_of : List (List ℕ × ℕ) → List ℕ → Option ℕ
place_of places name = lookup (bytes_eq (folded name)) places

-- A name gets a place, and each other name keeps what it has.
abbrev pub Puts : List ℕ → ℕ → List (List ℕ × ℕ) → List (List ℕ × ℕ) → Type 0
Puts name place old new = (other : List ℕ)
    → place_of new other ≡ (if same_name other name then Some place else place_of old other)

module _ {X : Type 0} where
  -- what stands in a list at the place of a name
  abbrev pub at_name : List X → List (List ℕ × ℕ) → List ℕ → Option X
  at_name all places name = option_and_then (slice_get all) (place_of places name)

  -- The place of each name is that of the first element of a part that has the name by a test.
  abbrev pub LeadToFirst : (List ℕ → X → Bool) → List X → List (List ℕ × ℕ) → List X → Type 0
  LeadToFirst test all places part = (name : List ℕ)
      → at_name all places name ≡ find (test name) part

-- the places, with that of a restricted parameter
abbrev pub with_shared : Known → ℕ → List (List ℕ × ℕ) → List (List ℕ × ℕ)
with_shared known place places = if known.restricted
    then insert_entry bytes_eq places (folded known.full) place else places

-- Each thorn leads to the first place of a part, and those that have several are known.
abbrev pub AreNamed : List Place → List (List ℕ × ℕ) → List (List ℕ) → List Place → Type 0
AreNamed all firsts several part =
    LeadToFirst is_place_of all firsts part
    × HasThose (λ name. nat_lt 1 (count_by (is_place_of name) part)) several
