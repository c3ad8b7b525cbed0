-- The settings of a parameter file beside those of parameters that only say how and where a run is
-- done.
use Rattle.std.specs.Prelude.{ℕ, Bool, false, not, List, map, filter, slice_get, Option, Some, None}
use Rattle.cx_text.specs.Lexemes.{among}
use Rattle.cx_parfile.specs.declared.settings.Setting.{Setting}
use Rattle.cx_bind.specs.declared.thorns.Thorn.{Thorn}
use Rattle.cx_bind.specs.declared.thorns.Param.{Param}
use Rattle.cx_bind.specs.BuiltIn.{starred}
use Rattle.cx_bind.specs.Parameters.{parameters}
use Rattle.cx_values.specs.Naming.{Names, names}
use Rattle.cx_parfile.specs.Printed.{without_line}
use Rattle.cx_plan.specs.Names.{with_owner}

-- ---- parameters that only say how and where a run is done

abbrev pub is_starred : Option Param → Bool
is_starred None = false
is_starred (Some p) = among starred p.full

-- the parameter of a number, if there is one
abbrev pub is_starred_at : List Param → Option ℕ → Bool
is_starred_at ps None = false
is_starred_at ps (Some n) = is_starred (slice_get ps n)

-- ---- settings

-- whether a setting names such a parameter, by whatever name
abbrev pub sets_starred_by : List Param → Names → Setting → Bool
sets_starred_by ps names s = is_starred_at ps (names (with_owner s.owner s.name))

abbrev pub sets_starred : List Thorn → Setting → Bool
sets_starred thorns s = sets_starred_by (parameters thorns) (names thorns) s

-- the same by full names alone, whatever thorns there are
abbrev pub names_starred : Setting → Bool
names_starred s = among starred (with_owner s.owner s.name)

-- all other settings, in their order, on whatever lines
abbrev pub others_by : List Param → Names → List Setting → List Setting
others_by ps names settings =
    map without_line (filter (λ s. not (sets_starred_by ps names s)) settings)

abbrev pub other_settings : List Thorn → List Setting → List Setting
other_settings thorns settings = others_by (parameters thorns) (names thorns) settings

-- all settings but those that give the full name of such a parameter
abbrev pub unnamed_settings : List Setting → List Setting
unnamed_settings settings = map without_line (filter (λ s. not (names_starred s)) settings)
