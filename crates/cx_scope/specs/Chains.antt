-- Groups that have the same name.
use Rattle.std.specs.Prelude.{◌≡◌, ℕ, ◌+◌, ◌≤◌, List, drop, slice_get, Option, Some}
use Rattle.std.specs.List.{position_from}
use Rattle.cx_text.specs.Lexemes.{same_name}
use Rattle.cx_scope.specs.declared.names.NamedGroup.{NamedGroup}
use Rattle.cx_bind.specs.NamePlaces.{place_of}

-- the place of the first group of a name, in a list that begins at a place
abbrev pub named_from : List ℕ → ℕ → List NamedGroup → Option ℕ
named_from name k gs = position_from (λ g. same_name name g.name) k gs

-- Each name finds the first group of that name that stands at a place or behind it.
abbrev pub FindsFirsts : List (List ℕ × ℕ) → ℕ → List NamedGroup → Type 0
FindsFirsts firsts k gs = (name : List ℕ) → place_of firsts name ≡ named_from name k (drop k gs)

-- Each group that stands at a place or behind it has the next one of its name.
abbrev pub FindsNexts : List (Option ℕ) → ℕ → List NamedGroup → Type 0
FindsNexts nexts k gs = (j : ℕ) → (g : NamedGroup) → k ≤ j → slice_get gs j ≡ Some g
    → slice_get nexts j ≡ Some (named_from g.name (j + 1) (drop (j + 1) gs))
