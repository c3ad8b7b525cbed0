-- What tables beside lists find in them.
use Rattle.std.specs.Prelude.{◌≡◌, ℕ, ◌==◌, ◌&&◌, List, Option, Some, None, position, if◌then◌else◌}
use Rattle.std.specs.Map.{lookup}
use Rattle.cx_text.specs.Lexemes.{same_name}
use Rattle.cx_plan.specs.Lists.{or_else}
use Rattle.cx_bind.specs.NamePlaces.{place_of}
use Rattle.cx_values.specs.declared.values.Slot.{Slot}
use Rattle.cx_values.specs.declared.values.Given.{Given}
use Rattle.cx_values.specs.declared.values.Use.{Use}
use Rattle.cx_values.specs.Naming.{Names}
use Rattle.cx_values.specs.Assigned.{is_given, used_as}

-- the place of the parameter of a full name
abbrev pub slot_named : List Slot → Names
slot_named slots full = position (λ s. same_name s.full full) slots

-- A table of names finds what each name names.
abbrev pub Finds : Names → List (List ℕ × ℕ) → Type 0
Finds names table = (name : List ℕ) → place_of table name ≡ names name

abbrev pub FindsSlots : List Slot → List (List ℕ × ℕ) → Type 0
FindsSlots slots table = Finds (slot_named slots) table

abbrev pub FindsUses : List Use → List (List ℕ × ℕ) → Type 0
FindsUses uses table = Finds (λ name. used_as name uses) table

-- the place of the first that sets an element
abbrev pub given_place : List Given → ℕ → ℕ → Option ℕ
given_place given n k = position (is_given n k) given

-- ---- tables of elements: by a parameter's place and a number

abbrev pub ElementPlaces : Type 0
ElementPlaces = List ((ℕ × ℕ) × ℕ)

abbrev pub element_place : ElementPlaces → ℕ → ℕ → Option ℕ
element_place table n k = lookup (λ key. n == key.0 && k == key.1) table

-- an element gets a place, unless it has one
abbrev pub Notes : ℕ × ℕ → ℕ → ElementPlaces → ElementPlaces → Type 0
Notes key place old new = (n k : ℕ)
    → element_place new n k
    ≡ or_else (element_place old n k) (if key.0 == n && key.1 == k then Some place else None)

-- A table of elements finds the first that sets each of them.
abbrev pub FindsGiven : List Given → ElementPlaces → Type 0
FindsGiven given table = (n k : ℕ) → element_place table n k ≡ given_place given n k
