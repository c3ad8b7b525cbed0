-- The groups and variables of thorns, as names find them. A variable's number is its place in the
-- list of all of them.
use Rattle.std.specs.Prelude.{ℕ, List, map, Option}
use Rattle.std.specs.List.{flat_map, enumerate_from}
use Rattle.cx_iface.specs.declared.tree.Group.{Group}
use Rattle.cx_bind.specs.declared.thorns.Thorn.{Thorn}
use Rattle.cx_bind.specs.Variables.{owner_by, copies}
use Rattle.cx_scope.specs.declared.names.NamedGroup.{NamedGroup}
use Rattle.cx_scope.specs.declared.names.NamedVariable.{NamedVariable}

-- a group by its thorn's number and its place in the thorn's file
abbrev pub named_group : ℕ × Thorn → ℕ × Group → NamedGroup
named_group t g = record {
  thorn = t.0;
  place = g.0;
  access = g.1.access;
  owner = owner_by g.1.access t.1;
  name = g.1.name;
}

abbrev pub groups_of : ℕ × Thorn → List NamedGroup
groups_of t = map (named_group t) (enumerate_from 0 t.1.interface.groups)

-- all groups, in the order of activation and of the files
abbrev pub named_groups : List Thorn → List NamedGroup
named_groups thorns = flat_map groups_of (enumerate_from 0 thorns)

abbrev pub named_copy : NamedGroup → List ℕ → Option ℕ → NamedVariable
named_copy g name copy = record { group = g; name = name; copy = copy }

abbrev pub copies_of : NamedGroup → Option ℕ → List ℕ → List NamedVariable
copies_of g count name = map (named_copy g name) (copies count)

abbrev pub variables_in : ℕ × Thorn → ℕ × Group → List NamedVariable
variables_in t g = flat_map (copies_of (named_group t g) g.1.copies) g.1.variables

abbrev pub variables_of : ℕ × Thorn → List NamedVariable
variables_of t = flat_map (variables_in t) (enumerate_from 0 t.1.interface.groups)

-- all variables: thorns in the order of activation, groups and variables in that of the files, the
-- copies of each by number
abbrev pub named_variables : List Thorn → List NamedVariable
named_variables thorns = flat_map variables_of (enumerate_from 0 thorns)
