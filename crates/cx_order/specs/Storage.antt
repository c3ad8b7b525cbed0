-- The levels that are stored, by the STORAGE lines that count.
use Rattle.std.specs.Prelude.{◌≡◌, ℕ, ◌==◌, Bool, false, List, [], ◌∷◌, map, min, max, length, slice_get, slice_index, Option, Some, None, option_map, Result, Ok, Err, if◌then◌else◌}
use Rattle.std.specs.List.{list_any, range_with_len}
use Rattle.cx_plan.specs.Lists.{first_of_each, greatest}
use Rattle.cx_plan.specs.declared.variable.VarId.{VarId}
use Rattle.cx_plan.specs.declared.variable.VarInfo.{VarInfo}
use Rattle.cx_bind.specs.declared.thorns.Thorn.{Thorn}
use Rattle.cx_bind.specs.Variables.{variable_infos}
use Rattle.cx_scope.specs.declared.fault.ScopeFault.{ScopeFault}
use Rattle.cx_scope.specs.Sight.{Sight}
use Rattle.cx_scope.specs.Resolving.{group_of}
use Rattle.cx_order.specs.declared.fault.OrderFault.{OrderFault}
use Rattle.cx_order.specs.declared.fault.OrderFault.TheVariants.{Scope}
use Rattle.cx_order_entries.specs.Counted.{Line}
use Rattle.cx_order.specs.Files.{thorn_name}

abbrev pub error_of : {X E : Type 0} → Result X E → Option E
error_of (Ok x) = None
error_of (Err e) = Some e

-- a line whose name is no group that its thorn sees
abbrev pub line_fault : List Thorn → Sight → Line → Option OrderFault
line_fault thorns sight l =
    option_map (λ e. Scope (thorn_name thorns l.thorn) e)
    (error_of (group_of thorns sight l.thorn l.group))

-- the first of them
abbrev pub storage_fault : List Thorn → Sight → List Line → Option OrderFault
storage_fault thorns sight lines = first_of_each (line_fault thorns sight) lines

abbrev pub has_variable : ℕ → Result (List VarId) ScopeFault → Bool
has_variable v (Ok vs) = list_any (λ (w : VarId). w.0 == v) vs
has_variable v (Err e) = false

-- so many levels, all declared ones where no number stands, and never more than these
abbrev pub granted : ℕ → Option ℕ → ℕ
granted declared None = declared
granted declared (Some n) = min n declared

abbrev pub declared_levels : Option VarInfo → ℕ
declared_levels None = 0
declared_levels (Some v) = v.levels

-- what a line of a group with this number of levels gives a variable, by the variable's number
abbrev pub given : List VarInfo → Option ℕ → Result (List VarId) ScopeFault → ℕ → ℕ
given infos levels group v = if has_variable v group
    then granted (declared_levels (slice_get infos v)) levels else 0

abbrev pub given_by : List Thorn → Sight → ℕ → Line → ℕ
given_by thorns sight v l =
    given (variable_infos thorns) l.levels (group_of thorns sight l.thorn l.group) v

-- the greatest number of levels that a line gives a variable
abbrev pub stored_by : List Thorn → Sight → List Line → ℕ → ℕ
stored_by thorns sight lines v = greatest (map (given_by thorns sight v) lines)

-- each variable has what it had, or what it is given, if that is more
abbrev pub IsRaised : (old new : List ℕ) → (ℕ → ℕ) → Type 0
IsRaised old new more = (v : ℕ) → slice_index new v ≡ max (slice_index old v) (more v)

-- per variable the greatest number of levels that a line gives it
abbrev pub storage : List Thorn → Sight → List Line → List ℕ
storage thorns sight lines =
    map (stored_by thorns sight lines) (range_with_len 0 (length (variable_infos thorns)))
