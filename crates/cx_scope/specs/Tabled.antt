-- What names mean by the tables of a scope.
use Rattle.std.specs.Prelude.{ℕ, Bool, ◌&&◌, List, Option, Result, slice_get}
use Rattle.cx_plan.specs.declared.variable.VarId.{VarId}
use Rattle.cx_sched.specs.declared.tree.Ref.{Ref}
use Rattle.cx_scope.specs.declared.fault.ScopeFault.{ScopeFault}
use Rattle.cx_scope.specs.declared.names.NamedGroup.{NamedGroup}
use Rattle.cx_scope.specs.declared.names.NamedVariable.{NamedVariable}
use Rattle.cx_scope.specs.declared.names.Tier.{Tier}
use Rattle.cx_scope.specs.declared.tables.Tables.{Tables}
use Rattle.cx_scope.specs.Closures.{sight_of}
use Rattle.cx_scope.specs.Sight.{seen, is_in}
use Rattle.cx_scope.specs.Naming.{Level, names_level, names_group, variable_at, variable_named, group_named}
use Rattle.cx_scope.specs.Resolving.{is_anyones_group, is_anyones, members_at, group_levels, levels, group_members}

-- a name with another text in place of its own
abbrev pub with_base : Ref → List ℕ → Ref
with_base r base = record r { name = base }

-- a variable of such a group, of this name
abbrev pub has_variable : Tables → ℕ → Tier → Ref → NamedVariable → Bool
has_variable tables t tier r v = is_in (sight_of tables) t tier v.group && names_level r 0 v

-- such a group, of this name
abbrev pub has_group : Tables → ℕ → Tier → Ref → NamedGroup → Bool
has_group tables t tier r g = is_in (sight_of tables) t tier g && names_group r g

abbrev pub variable_of : Tables → ℕ → List Tier → Ref → Option ℕ
variable_of tables t tiers r = variable_at (sight_of tables) t tiers tables.variables r 0

abbrev pub level_meant : Tables → ℕ → List Tier → Ref → Option Level
level_meant tables t tiers r = variable_named (sight_of tables) t tiers tables.variables r

abbrev pub group_meant : Tables → ℕ → List Tier → Ref → Option ℕ
group_meant tables t tiers r = group_named (sight_of tables) t tiers tables.groups r

abbrev pub is_group_of_any : Tables → ℕ → Ref → Bool
is_group_of_any tables t r = is_anyones_group tables.groups (sight_of tables) t r

abbrev pub is_of_any : Tables → ℕ → Ref → Bool
is_of_any tables t r = is_anyones tables.variables tables.groups (sight_of tables) t r

abbrev pub members_of : Tables → ℕ → List ℕ
members_of tables place = members_at tables.variables (slice_get tables.groups place)

abbrev pub group_levels_meant : Tables → List ℕ → ℕ → Ref → Result (List (VarId × ℕ)) ScopeFault
group_levels_meant tables storage t r =
    group_levels tables.variables tables.groups (sight_of tables) t r storage
    (group_meant tables t seen r)

abbrev pub levels_meant : Tables → List ℕ → ℕ → Ref → Result (List (VarId × ℕ)) ScopeFault
levels_meant tables storage t r =
    levels tables.variables tables.groups (sight_of tables) t r storage
    (level_meant tables t seen r)

abbrev pub members_meant : Tables → ℕ → Ref → Result (List VarId) ScopeFault
members_meant tables t r =
    group_members tables.variables tables.groups (sight_of tables) t r (group_meant tables t seen r)
