-- The variables of thorns. A variable's number is its place in the list of all of them.
use Rattle.std.specs.Prelude.{ℕ, zero, suc, Bool, true, false, List, [], ◌∷◌, ◌++◌, map, codes, Option, Some, None}
use Rattle.std.specs.List.{flat_map, enumerate_from, range_with_len}
use Rattle.cx_plan.specs.Names.{full_name, bracketed}
use Rattle.cx_plan.specs.declared.variable.VarInfo.{VarInfo}
use Rattle.cx_iface.specs.declared.tree.Access.{Access}
use Rattle.cx_iface.specs.declared.tree.Access.TheVariants.{Public, Protected, Private}
use Rattle.cx_iface.specs.declared.tree.GType.{GType}
use Rattle.cx_iface.specs.declared.tree.GType.TheVariants.{Gf, Array, Scalar}
use Rattle.cx_iface.specs.declared.tree.Group.{Group}
use Rattle.cx_bind.specs.declared.thorns.Thorn.{Thorn}

-- a group, its thorn and that thorn's number
pub record OwnedGroup : Type 0 where
  pub number : ℕ
  pub thorn : Thorn
  pub group : Group

abbrev pub groups_of : ℕ × Thorn → List OwnedGroup
groups_of t = map (λ g. record { number = t.0; thorn = t.1; group = g }) t.1.interface.groups

-- all groups, in the order of activation and of the files
abbrev pub owned_groups : List Thorn → List OwnedGroup
owned_groups thorns = flat_map groups_of (enumerate_from 0 thorns)

-- what stands before the `::` of a full name: the thorn for a private group, else the
-- implementation
abbrev pub owner_by : Access → Thorn → List ℕ
owner_by Private t = t.name
owner_by Public t = t.interface.implements
owner_by Protected t = t.interface.implements

abbrev pub group_full : Thorn → Group → List ℕ
group_full t g = full_name (owner_by g.access t) g.name

-- one copy of a variable
pub record Variable : Type 0 where
  pub owned : OwnedGroup
  pub name : List ℕ
  pub copy : Option ℕ

-- a group without a number of copies has one of each variable, which bears no number
abbrev pub copies : Option ℕ → List (Option ℕ)
copies None = None ∷ []
copies (Some n) = map (λ k. Some k) (range_with_len 0 n)

abbrev pub variables_in : OwnedGroup → List Variable
variables_in g = flat_map
    (λ name. map (λ copy. record { owned = g; name = name; copy = copy }) (copies g.group.copies))
    g.group.variables

-- all variables: thorns in the order of activation, groups and variables in that of the files, the
-- copies of each by number
abbrev pub variables : List Thorn → List Variable
variables thorns = flat_map variables_in (owned_groups thorns)

-- `_p` once for each past level, before the bracket of a copy
abbrev pub past_name : List ℕ → ℕ → List ℕ
past_name name zero = name
past_name name (suc level) = past_name name level ++ codes "_p"

abbrev pub with_copy : List ℕ → Option ℕ → List ℕ
with_copy name None = name
with_copy name (Some k) = bracketed name k

abbrev pub level_full : Variable → ℕ → List ℕ
level_full v level = full_name (owner_by v.owned.group.access v.owned.thorn)
    (with_copy (past_name v.name level) v.copy)

abbrev pub is_scalar : GType → Bool
is_scalar Scalar = true
is_scalar Gf = false
is_scalar Array = false

-- as the calls see a variable, with its declared levels
abbrev pub info_of : Thorn → Group → List ℕ → Option ℕ → VarInfo
info_of t g name copy =
    record {
      full = full_name (owner_by g.access t) (with_copy name copy);
      ctype = g.ctype;
      scalar = is_scalar g.gtype;
      levels = g.levels;
    }

-- the copies of a variable, and all variables of a group
abbrev pub copy_infos : Thorn → Group → List ℕ → List VarInfo
copy_infos t g name = map (info_of t g name) (copies g.copies)

abbrev pub group_infos : Thorn → Group → List VarInfo
group_infos t g = flat_map (copy_infos t g) g.variables

abbrev pub variable_info : Variable → VarInfo
variable_info v = info_of v.owned.thorn v.owned.group v.name v.copy

abbrev pub variable_infos : List Thorn → List VarInfo
variable_infos thorns = map variable_info (variables thorns)
