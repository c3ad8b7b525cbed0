-- The variables that are written.
use Rattle.std.specs.Prelude.{ℕ, ◌==◌, nat_lt, Bool, not, ◌&&◌, ◌||◌, List, map, filter, find, length, codes, Option, Some, None, Result, Ok, Err, slice_index_or, if◌then◌else◌}
use Rattle.std.specs.List.{flat_map, enumerate_from, position_from, list_any, slice_split}
use Rattle.std.specs.Option.{option_map}
use Rattle.cx_text.specs.Bytes.{is_blank}
use Rattle.cx_text.specs.Lexemes.{same_name}
use Rattle.cx_iface.specs.declared.tree.Group.{Group}
use Rattle.cx_plan.specs.Lists.{all_ok}
use Rattle.cx_plan.specs.declared.variable.VarId.{VarId}
use Rattle.cx_plan.specs.declared.variable.VarInfo.{VarInfo}
use Rattle.cx_bind.specs.declared.thorns.Thorn.{Thorn}
use Rattle.cx_bind.specs.Variables.{copies, variable_infos}
use Rattle.cx_bind.specs.Variables as full
use Rattle.cx_scope.specs.declared.fault.ScopeFault.{ScopeFault}
use Rattle.cx_scope.specs.declared.fault.ScopeFault.TheVariants.{NotFound, NoStorage}
use Rattle.cx_scope.specs.Resolving.{var_id}
use Rattle.cx_values.specs.declared.values.Values.{Values}
use Rattle.cx_job_values.specs.Grids.{text_at}
use Rattle.cx_job.specs.declared.groups.GroupPlace.{GroupPlace}
use Rattle.cx_job.specs.declared.groups.FullGroup.{FullGroup}
use Rattle.cx_job.specs.declared.outputs.Named.{Named}
use Rattle.cx_job.specs.declared.outputs.Named.TheVariants.{Variable, Group as OfGroup}

-- ---- groups

abbrev pub group_place : ℕ × Thorn → ℕ × Group → GroupPlace
group_place t g = record { thorn = t.0; place = g.0 }

abbrev pub full_group : ℕ × Thorn → ℕ × Group → FullGroup
full_group t g = record { at = group_place t g; full = full.group_full t.1 g.1 }

abbrev pub full_groups_in : ℕ × Thorn → List Group → List FullGroup
full_groups_in t groups = map (full_group t) (enumerate_from 0 groups)

abbrev pub groups_of : ℕ × Thorn → List FullGroup
groups_of t = full_groups_in t t.1.interface.groups

-- all groups by their full names, in the order of activation and of the files
abbrev pub full_groups : List Thorn → List FullGroup
full_groups thorns = flat_map groups_of (enumerate_from 0 thorns)

-- whether a group has this full name
abbrev pub has_full_name : List ℕ → FullGroup → Bool
has_full_name name g = same_name name g.full

-- one for each copy
abbrev pub places_of_copies : GroupPlace → Option ℕ → List GroupPlace
places_of_copies at count = map (λ copy. at) (copies count)

-- one for each copy of each of these variables
abbrev pub places_of_names : GroupPlace → Option ℕ → List (List ℕ) → List GroupPlace
places_of_names at count names = flat_map (λ name. places_of_copies at count) names

abbrev pub places_in : ℕ × Thorn → ℕ × Group → List GroupPlace
places_in t g = places_of_names (group_place t g) g.1.copies g.1.variables

abbrev pub places_in_groups : ℕ × Thorn → List Group → List GroupPlace
places_in_groups t groups = flat_map (places_in t) (enumerate_from 0 groups)

abbrev pub places_of : ℕ × Thorn → List GroupPlace
places_of t = places_in_groups t t.1.interface.groups

-- the group of each variable, in the order of the variables' numbers
abbrev pub group_places : List Thorn → List GroupPlace
group_places thorns = flat_map places_of (enumerate_from 0 thorns)

-- ---- names

-- blanks or line feeds stand between names
abbrev pub is_between : ℕ → Bool
is_between b = is_blank b || b == 10

abbrev pub is_name : List ℕ → Bool
is_name text = nat_lt 0 (length text)

abbrev pub output_names : Values → List (List ℕ)
output_names v = filter is_name (slice_split is_between (text_at v (codes "IO::out_vars")))

-- the number of the variable that has this full name, in any case
abbrev pub variable_named : List VarInfo → List ℕ → Option ℕ
variable_named vars name = position_from (λ v. same_name name v.full) 0 vars

-- a variable, or where none has the full name a group
abbrev pub variable_or : Option ℕ → Option GroupPlace → Option Named
variable_or (Some k) g = Some (Variable k)
variable_or None (Some g) = Some (OfGroup g)
variable_or None None = None

abbrev pub named_by : List VarInfo → List FullGroup → List ℕ → Option Named
named_by vars groups name =
    variable_or (variable_named vars name)
    (option_map (λ g. g.at) (find (λ g. same_name name g.full) groups))

-- ---- what names give

abbrev pub is_same_group : GroupPlace → GroupPlace → Bool
is_same_group a b = a.thorn == b.thorn && a.place == b.place

-- whether a variable, by its number and its group, is named
abbrev pub is_of : ℕ × GroupPlace → Named → Bool
is_of v (Variable k) = v.0 == k
is_of v (OfGroup g) = is_same_group v.1 g

abbrev pub is_stored : List ℕ → ℕ → Bool
is_stored storage v = nat_lt 0 (slice_index_or storage v 0)

-- a variable that is named, and of which no level is stored
abbrev pub is_missing : List ℕ → Named → ℕ × GroupPlace → Bool
is_missing storage named v = is_of v named && not (is_stored storage v.0)

abbrev pub lacks_storage : List GroupPlace → List ℕ → Named → Bool
lacks_storage places storage named = list_any (is_missing storage named) (enumerate_from 0 places)

abbrev pub output_of : List GroupPlace → List ℕ → List ℕ → Option Named → Result Named ScopeFault
output_of places storage name None = Err (NotFound name)
output_of places storage name (Some named) = if lacks_storage places storage named
    then Err (NoStorage name) else Ok named

abbrev pub outputs : List VarInfo → List FullGroup → List GroupPlace → List ℕ → List (List ℕ)
    → Result (List Named) ScopeFault
outputs vars groups places storage names =
    all_ok (map (λ name. output_of places storage name (named_by vars groups name)) names)

abbrev pub is_written : List Named → ℕ × GroupPlace → Bool
is_written named v = list_any (is_of v) named

-- each variable that any name gives, once, in the order of the numbers
abbrev pub named_ids : List GroupPlace → List Named → List VarId
named_ids places named = map (λ v. var_id v.0) (filter (is_written named) (enumerate_from 0 places))

abbrev pub ids_or_fault : List GroupPlace → Result (List Named) ScopeFault
    → Result (List VarId) ScopeFault
ids_or_fault places (Ok named) = Ok (named_ids places named)
ids_or_fault places (Err e) = Err e

-- the variables that are written, or the fault of the first name that has one
abbrev pub output_variables : List Thorn → Values → List ℕ → Result (List VarId) ScopeFault
output_variables thorns values storage =
    ids_or_fault (group_places thorns)
    (outputs (variable_infos thorns) (full_groups thorns) (group_places thorns) storage
    (output_names values))
