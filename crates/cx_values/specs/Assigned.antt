-- The values of parameters, and the names by which thorns use them.
use Rattle.std.specs.Prelude.{◌≡◌, ◌⊎◌, ℕ, ◌==◌, Bool, ◌&&◌, ℤ, List, [], ◌∷◌, ◌++◌, map, find, position, slice_get, codes, Option, Some, None, Result, Ok, Err, if◌then◌else◌}
use Rattle.std.specs.List.{flat_map, list_any, enumerate_from}
use Rattle.std.specs.Option.{option_map, option_and_then, unwrap_or}
use Rattle.cx_text.specs.Lexemes.{same_name}
use Rattle.cx_plan.specs.Lists.{or_else}
use Rattle.cx_plan.specs.Names.{full_name}
use Rattle.cx_param.specs.declared.ranges.Value.{Value}
use Rattle.cx_param.specs.declared.ranges.Value.TheVariants.{Number, Flag, Text}
use Rattle.cx_param.specs.declared.declarations.ParamDecl.{ParamDecl}
use Rattle.cx_parfile.specs.declared.settings.Setting.{Setting}
use Rattle.cx_bind.specs.declared.thorns.Thorn.{Thorn}
use Rattle.cx_bind.specs.declared.thorns.Param.{Param}
use Rattle.cx_bind.specs.Parameters.{parameters, shared_by, is_global}
use Rattle.cx_expr.specs.Known.{Known, NumberOf, TextOf, Nothing}
use Rattle.cx_values.specs.declared.values.Held.{Held}
use Rattle.cx_values.specs.declared.values.Slot.{Slot}
use Rattle.cx_values.specs.declared.values.Given.{Given}
use Rattle.cx_values.specs.declared.values.Use.{Use}
use Rattle.cx_values.specs.declared.values.Values.{Values}
use Rattle.cx_values.specs.declared.fault.ValueFault.{ValueFault}
use Rattle.cx_values.specs.declared.fault.ValueFault.TheVariants.{Memory}
use Rattle.cx_values.specs.Spelling.{held_by, flag_number}
use Rattle.cx_values.specs.Naming.{Names, Target, element, target, names}
use Rattle.cx_values.specs.Special.{checkpoint_dir}
use Rattle.cx_values.specs.Faults.{default_text, Seen, assign_fault}

-- ---- what parameters hold

-- The default of the folder of recovery is the folder of checkpoints.
abbrev pub default_of : List ℕ → Param → List ℕ
default_of dir p = if same_name p.full (codes "IO::recover_dir") then dir else default_text p.decl

abbrev pub slot : List ℕ → Param → Slot
slot dir p = record {
  full = p.full;
  length = p.decl.length;
  default = held_by p.decl.ptype p.ranges (default_of dir p);
}

abbrev pub given_of : List ℕ → Option Target → Option Param → List Given
given_of text None p = []
given_of text (Some at) None = []
given_of text (Some at) (Some p) =
    record { parameter = at.0; element = at.1; held = held_by p.decl.ptype p.ranges text } ∷ []

abbrev pub given_at : List Param → List ℕ → Option Target → List Given
given_at ps text None = []
given_at ps text (Some at) = given_of text (Some at) (slice_get ps at.0)

-- what a setting gives an element
abbrev pub given_by : List Param → Names → Setting → List Given
given_by ps names s = given_at ps s.value (target ps names s)

-- ---- how thorns name parameters

abbrev pub use_as : List ℕ → ℕ → Use
use_as name n = record { name = name; parameter = n }

abbrev pub own_use : ℕ → ℕ × Param → List Use
own_use t p = if p.1.thorn == t then use_as p.1.decl.name p.0 ∷ [] else []

abbrev pub shared_use : ParamDecl → Option ℕ → List Use
shared_use d None = []
shared_use d (Some n) = use_as (unwrap_or d.alias d.name) n ∷ []

-- the parameter that a thorn uses or extends, by its alias if it has one
abbrev pub used_by : Names → ParamDecl → Option (List ℕ) → List Use
used_by names d None = []
used_by names d (Some implementation) = shared_use d (names (full_name implementation d.name))

-- a thorn's own parameters, and those that it uses or extends
abbrev pub uses_of : List Param → Names → ℕ × Thorn → List Use
uses_of ps names t = flat_map (own_use t.0) (enumerate_from 0 ps)
    ++ flat_map (λ d. used_by names d (shared_by d.scope)) t.1.params

abbrev pub global_use : ℕ × Param → List Use
global_use p = if is_global p.1.decl.scope then use_as p.1.decl.name p.0 ∷ [] else []

-- ---- all values

abbrev pub assigned_by : List Param → Names → List Thorn → List Setting → Values
assigned_by ps names thorns settings =
    record {
      slots = map (slot (checkpoint_dir ps names settings)) ps;
      given = flat_map (given_by ps names) settings;
      uses = map (uses_of ps names) (enumerate_from 0 thorns);
      globals = flat_map global_use (enumerate_from 0 ps);
    }

unfoldable pub assigned : List Thorn → List Setting → Values
assigned thorns settings = assigned_by (parameters thorns) (names thorns) thorns settings

-- Settings without a fault give all parameters their values.
abbrev pub Assigns : List Thorn → List Setting → Result Values ValueFault → Type 0
Assigns thorns settings (Ok values) =
    (values ≡ assigned thorns settings) × (assign_fault thorns settings ≡ None)
Assigns thorns settings (Err e) = (e ≡ Memory) ⊎ (assign_fault thorns settings ≡ Some e)

-- ---- what is told of values

-- an element holds what a setting gives it, else the default
abbrev pub is_given : ℕ → ℕ → Given → Bool
is_given n k g = g.parameter == n && g.element == k

abbrev pub given_before : List Given → Seen
given_before given n k = list_any (is_given n k) given

abbrev pub held_in : List Given → ℕ → Slot → ℕ → Held
held_in given n slot k =
    unwrap_or (option_map (λ g. g.held) (find (is_given n k) given)) slot.default

abbrev pub held_at : List Given → Option ℕ → ℕ → Option Slot → Option Held
held_at given index n None = None
held_at given index n (Some slot) = option_map (held_in given n slot) (element slot.length index)

-- the element of an index of a parameter, by its number
abbrev pub holds : Values → Option ℕ → ℕ → Option Held
holds values index n = held_at values.given index n (slice_get values.slots n)

-- the element of an index of a parameter, by its full name
abbrev pub held_named : Values → List ℕ → Option ℕ → Option Held
held_named values full index =
    option_and_then (holds values index) (position (λ s. same_name s.full full) values.slots)

abbrev pub get : Values → List ℕ → Option ℕ → Option Value
get values full index = option_map (λ h. h.value) (held_named values full index)

abbrev pub number : Values → List ℕ → Option ℕ → Option ℤ
number values full index = option_and_then (λ h. h.number) (held_named values full index)

-- ---- what a name stands for in a thorn's expressions

abbrev pub known_value : Value → Known
known_value (Number n) = NumberOf n
known_value (Flag b) = NumberOf (flag_number b)
known_value (Text text) = TextOf text

abbrev pub known_held : Option Held → Known
known_held (Some h) = known_value h.value
known_held None = Nothing

-- of several parameters of a name the first counts
abbrev pub used_as : List ℕ → List Use → Option ℕ
used_as name uses = option_map (λ u. u.parameter) (find (λ u. same_name u.name name) uses)

abbrev pub finds_in : Values → List Use → List ℕ → Option ℕ → Option Held
finds_in values uses name index =
    option_and_then (holds values index) (or_else (used_as name uses) (used_as name values.globals))

abbrev pub thorn_finds : Values → ℕ → List ℕ → Option ℕ → Known
thorn_finds values t name index =
    known_held (option_and_then (λ uses. finds_in values uses name index) (slice_get values.uses t))
