-- Why parameters have no values.
use Rattle.std.specs.Prelude.{ℕ, Bool, false, ◌&&◌, List, [], ◌∷◌, ◌++◌, Option, Some, None, slice_get, if◌then◌else◌}
use Rattle.std.specs.List.{list_any}
use Rattle.std.specs.Option.{unwrap_or}
use Rattle.cx_plan.specs.Lists.{or_else, first_of_each}
use Rattle.cx_param.specs.declared.declarations.ParamDecl.{ParamDecl}
use Rattle.cx_param.specs.declared.ranges.Range.{Range}
use Rattle.cx_param.specs.declared.ranges.Value.{Value}
use Rattle.cx_param.specs.Ranges.{allows}
use Rattle.cx_parfile.specs.declared.settings.Setting.{Setting}
use Rattle.cx_bind.specs.declared.thorns.Thorn.{Thorn}
use Rattle.cx_bind.specs.declared.thorns.Param.{Param}
use Rattle.cx_bind.specs.Parameters.{parameters}
use Rattle.cx_values.specs.declared.fault.ValueFault.{ValueFault}
use Rattle.cx_values.specs.declared.fault.ValueFault.TheVariants.{BadDefault, UnknownParam, Index, BadSpelling, OutOfRange, Twice}
use Rattle.cx_values.specs.Spelling.{spelled}
use Rattle.cx_values.specs.Naming.{Names, element, names}
use Rattle.cx_values.specs.Special.{is_misspelled, sets, checkpoint_dir, is_stated}
use Rattle.cx_plan.specs.Names.{with_owner}

-- ---- defaults

abbrev pub default_text : ParamDecl → List ℕ
default_text d = unwrap_or d.default []

abbrev pub is_allowed : List Range → Option Value → Bool
is_allowed ranges None = false
is_allowed ranges (Some v) = allows ranges v

-- a default must be a value, and lie in the ranges of its own declaration
abbrev pub default_fault : Param → Option ValueFault
default_fault p = if is_allowed p.decl.ranges (spelled p.decl.ptype (default_text p.decl)) then None
    else Some (BadDefault p.full)

-- ---- a setting, by the settings before it

-- the value lies in no range of the declaration and of the extensions, or isn't the stated one
abbrev pub range_fault : List ℕ → Param → ℕ → Value → Option ValueFault
range_fault dir p line v = if allows p.ranges v && is_stated dir p.full v then None
    else Some (OutOfRange line)

abbrev pub spelled_fault : List ℕ → Param → ℕ → Option Value → Option ValueFault
spelled_fault dir p line None = Some (BadSpelling line)
spelled_fault dir p line (Some v) = range_fault dir p line v

abbrev pub value_fault : List ℕ → Param → ℕ → List ℕ → Option ValueFault
value_fault dir p line text = if is_misspelled p.full text then Some (BadSpelling line)
    else spelled_fault dir p line (spelled p.decl.ptype text)

-- whether an earlier setting has set an element of a parameter
abbrev pub Seen : Type 0
Seen = ℕ → ℕ → Bool

abbrev pub twice_fault : Bool → ℕ → Option ValueFault
twice_fault is_set line = if is_set then Some (Twice line) else None

abbrev pub element_fault : List ℕ → Seen → Setting → ℕ → Param → Option ℕ → Option ValueFault
element_fault dir is_set s n p None = Some (Index s.line)
element_fault dir is_set s n p (Some k) =
    or_else (value_fault dir p s.line s.value) (twice_fault (is_set n k) s.line)

abbrev pub parameter_fault : List ℕ → Seen → Setting → ℕ → Option Param → Option ValueFault
parameter_fault dir is_set s n None = Some (UnknownParam s.line)
parameter_fault dir is_set s n (Some p) =
    element_fault dir is_set s n p (element p.decl.length s.index)

abbrev pub named_fault : List Param → List ℕ → Seen → Setting → Option ℕ → Option ValueFault
named_fault ps dir is_set s None = Some (UnknownParam s.line)
named_fault ps dir is_set s (Some n) = parameter_fault dir is_set s n (slice_get ps n)

abbrev pub setting_fault : List Param → Names → List ℕ → Seen → Setting → Option ValueFault
setting_fault ps names dir is_set s = named_fault ps dir is_set s (names (with_owner s.owner s.name))

-- ---- all faults

-- the same element counts, by whatever name it was set
abbrev pub set_before : List Param → Names → List Setting → Seen
set_before ps names before n k = list_any (sets ps names n k) before

-- the first setting with a fault, behind some that have none
abbrev pub settings_fault : List Param → Names → List ℕ → List Setting → List Setting
    → Option ValueFault
settings_fault ps names dir before [] = None
settings_fault ps names dir before (s ∷ rest) =
    or_else (setting_fault ps names dir (set_before ps names before) s)
    (settings_fault ps names dir (before ++ s ∷ []) rest)

-- first the defaults, in the order of declaration, and then the settings, in that of the file
abbrev pub fault_by : List Param → Names → List Setting → Option ValueFault
fault_by ps names settings =
    or_else (first_of_each default_fault ps)
    (settings_fault ps names (checkpoint_dir ps names settings) [] settings)

unfoldable pub assign_fault : List Thorn → List Setting → Option ValueFault
assign_fault thorns settings = fault_by (parameters thorns) (names thorns) settings
