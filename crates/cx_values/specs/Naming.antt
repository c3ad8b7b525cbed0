-- Which parameter a name names, by its place among all parameters.
use Rattle.std.specs.Prelude.{◌≡◌, ℕ, nat_eq, nat_lt, Bool, List, [], ◌∷◌, ◌++◌, Option, Some, None, find, slice_get, if◌then◌else◌}
use Rattle.std.specs.List.{flat_map, enumerate_from, starts_with}
use Rattle.std.specs.Option.{option_map, option_and_then, unwrap_or}
use Rattle.cx_text.specs.Lexemes.{same_name}
use Rattle.cx_plan.specs.Lists.{or_else}
use Rattle.cx_plan.specs.Names.{full_name, with_owner}
use Rattle.cx_parfile.specs.declared.settings.Setting.{Setting}
use Rattle.cx_bind.specs.declared.thorns.Thorn.{Thorn}
use Rattle.cx_bind.specs.declared.thorns.Param.{Param}
use Rattle.cx_bind.specs.BuiltIn.{built_in}
use Rattle.cx_bind.specs.NamePlaces.{place_of}
use Rattle.cx_bind.specs.Parameters.{parameters, is_restricted, is_global}
use Rattle.cx_values.specs.declared.naming.Way.{Way}
use Rattle.cx_values.specs.declared.naming.Way.TheVariants.{Full, GlobalOfThorn, Alone, RestrictedOfThorn}

-- the parameter that each name names, if it names one
abbrev pub Names : Type 0
Names = List ℕ → Option ℕ

-- ---- the thorn of a parameter

-- the thorn of the provider with whose implementation a full name begins
abbrev pub built_in_thorn : List ℕ → List ℕ
built_in_thorn full = unwrap_or
    (option_map (λ p. p.thorn)
    (find (λ p. starts_with nat_eq full (full_name p.implementation [])) built_in)) []

abbrev pub thorn_name_of : Option Thorn → List ℕ → List ℕ
thorn_name_of (Some t) full = t.name
thorn_name_of None full = built_in_thorn full

-- the thorn that declares a parameter
abbrev pub thorn_name : List Thorn → Param → List ℕ
thorn_name thorns p = thorn_name_of (slice_get thorns p.thorn) p.full

-- ---- names

-- a name, and the parameter that it names
abbrev pub Naming : Type 0
Naming = List ℕ × ℕ

abbrev pub name_if : Bool → List ℕ → Option (List ℕ)
name_if named name = if named then Some name else None

-- the name that a way gives a parameter, if it gives one
abbrev pub name_by : List Thorn → Way → Param → Option (List ℕ)
name_by thorns Full p = Some p.full
name_by thorns GlobalOfThorn p =
    name_if (is_global p.decl.scope) (full_name (thorn_name thorns p) p.decl.name)
name_by thorns Alone p = name_if (is_global p.decl.scope) p.decl.name
name_by thorns RestrictedOfThorn p =
    name_if (is_restricted p.decl.scope) (full_name (thorn_name thorns p) p.decl.name)

abbrev pub naming_of : ℕ → Option (List ℕ) → List Naming
naming_of n None = []
naming_of n (Some name) = (name, n) ∷ []

abbrev pub naming : List Thorn → Way → ℕ × Param → List Naming
naming thorns way p = naming_of p.0 (name_by thorns way p.1)

abbrev pub namings_by : List Thorn → List (ℕ × Param) → Way → List Naming
namings_by thorns ps way = flat_map (naming thorns way) ps

-- Full names go before all others. Then a global parameter is named by its thorn, and by its name
-- alone, and last a restricted one by its thorn.
abbrev pub namings : List Thorn → List (ℕ × Param) → List Naming
namings thorns ps =
    namings_by thorns ps Full
    ++ (namings_by thorns ps GlobalOfThorn
    ++ (namings_by thorns ps Alone ++ namings_by thorns ps RestrictedOfThorn))

-- of several parameters of a name the first counts
abbrev pub named_in : List Naming → Names
named_in ns name = option_map (λ n. n.1) (find (λ n. same_name n.0 name) ns)

-- a table of places gets these names, but for those that it has
abbrev pub Adds : List Naming → List (List ℕ × ℕ) → List (List ℕ × ℕ) → Type 0
Adds ns old new = (name : List ℕ)
    → place_of new name ≡ or_else (place_of old name) (named_in ns name)

abbrev pub names_by : List Thorn → List Param → Names
names_by thorns ps = named_in (namings thorns (enumerate_from 0 ps))

unfoldable pub names : List Thorn → Names
names thorns = names_by thorns (parameters thorns)

-- ---- what a setting names

-- The element that an index names: an array has one for each index below its length, and another
-- parameter one without an index.
abbrev pub element : Option ℕ → Option ℕ → Option ℕ
element None None = Some 0
element None (Some k) = None
element (Some n) None = None
element (Some n) (Some k) = if nat_lt k n then Some k else None

-- a parameter and an element of it
abbrev pub Target : Type 0
Target = ℕ × ℕ

abbrev pub target_in : Option ℕ → ℕ → Option Param → Option Target
target_in index n None = None
target_in index n (Some p) = option_map (λ k. (n, k)) (element p.decl.length index)

abbrev pub target_at : List Param → Option ℕ → ℕ → Option Target
target_at ps index n = target_in index n (slice_get ps n)

-- what a setting sets, if its name and its index name something
abbrev pub target : List Param → Names → Setting → Option Target
target ps names s = option_and_then (target_at ps s.index) (names (with_owner s.owner s.name))
