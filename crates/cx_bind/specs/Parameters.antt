-- The parameters of thorns: the built-in ones first, then the thorns' in the order of activation
-- and of the files.
use Rattle.std.specs.Prelude.{ℕ, Bool, true, false, ◌&&◌, List, [], ◌∷◌, ◌++◌, map, length, find, Option, Some, None, if◌then◌else◌}
use Rattle.std.specs.List.{flat_map, enumerate_from}
use Rattle.cx_text.specs.Lexemes.{same_name, among}
use Rattle.cx_param.specs.declared.declarations.Scope.{Scope}
use Rattle.cx_param.specs.declared.declarations.Scope.TheVariants.{Private, Restricted, Global, Uses, Extends}
use Rattle.cx_param.specs.declared.declarations.ParamDecl.{ParamDecl}
use Rattle.cx_param.specs.declared.ranges.Range.{Range}
use Rattle.cx_plan.specs.Names.{full_name}
use Rattle.cx_bind.specs.declared.thorns.Thorn.{Thorn}
use Rattle.cx_bind.specs.declared.thorns.Param.{Param}
use Rattle.cx_bind.specs.declared.known.Known.{Known}
use Rattle.cx_bind.specs.declared.parameters.Extension.{Extension}
use Rattle.cx_bind.specs.BuiltIn.{table, starred}

-- a use and an extension declare no parameter
abbrev pub is_declaration : Scope → Bool
is_declaration Private = true
is_declaration Restricted = true
is_declaration Global = true
is_declaration (Uses i) = false
is_declaration (Extends i) = false

abbrev pub is_restricted : Scope → Bool
is_restricted Restricted = true
is_restricted Private = false
is_restricted Global = false
is_restricted (Uses i) = false
is_restricted (Extends i) = false

abbrev pub is_global : Scope → Bool
is_global Global = true
is_global Private = false
is_global Restricted = false
is_global (Uses i) = false
is_global (Extends i) = false

-- the implementation that a use or an extension names
abbrev pub shared_by : Scope → Option (List ℕ)
shared_by (Uses i) = Some i
shared_by (Extends i) = Some i
shared_by Private = None
shared_by Restricted = None
shared_by Global = None

-- what stands before the `::` of a full name: the thorn for a private parameter, else the
-- implementation
abbrev pub owner_by : Scope → Thorn → List ℕ
owner_by Private t = t.name
owner_by Restricted t = t.interface.implements
owner_by Global t = t.interface.implements
owner_by (Uses i) t = t.interface.implements
owner_by (Extends i) t = t.interface.implements

abbrev pub parameter_of : ℕ → Thorn → ParamDecl → Param
parameter_of number t d =
    record {
      full = full_name (owner_by d.scope t) d.name;
      thorn = number;
      decl = d;
      ranges = d.ranges;
    }

-- the parameter that a block's line declares, if it declares one
abbrev pub declared_as : ℕ → Thorn → ParamDecl → List Param
declared_as number t d = if is_declaration d.scope then parameter_of number t d ∷ [] else []

abbrev pub declared_by : ℕ × Thorn → List Param
declared_by t = flat_map (declared_as t.0 t.1) t.1.params

-- all parameters, each with the ranges of its own declaration
abbrev pub declared : List Thorn → List Param
declared thorns = table (length thorns) ++ flat_map declared_by (enumerate_from 0 thorns)

-- what other thorns can know of a parameter
abbrev pub known_by : Param → Known
known_by p =
    record {
      full = p.full;
      name = p.decl.name;
      restricted = is_restricted p.decl.scope;
      global = is_global p.decl.scope;
      ptype = p.decl.ptype;
    }

abbrev pub known : List Thorn → List Known
known thorns = map known_by (declared thorns)

-- what other thorns can know of the parameter that a line declares, if it declares one
abbrev pub known_as : Thorn → ParamDecl → List Known
known_as t d = map known_by (declared_as 0 t d)

abbrev pub known_of : Thorn → List Known
known_of t = flat_map (known_as t) t.params

-- the restricted parameter of a full name that thorns can use
abbrev pub is_shared_as : List ℕ → Known → Bool
is_shared_as full k = k.restricted && same_name k.full full

abbrev pub shared_parameter : List Known → List ℕ → Option Known
shared_parameter knowns full = if among starred full then None else find (is_shared_as full) knowns

-- a line that extends the parameter of a full name, and the ranges that it adds
abbrev pub extension_as : ParamDecl → Scope → List Extension
extension_as d (Extends i) = record { full = full_name i d.name; ranges = d.ranges } ∷ []
extension_as d (Uses i) = []
extension_as d Private = []
extension_as d Restricted = []
extension_as d Global = []

abbrev pub extension_by : ParamDecl → List Extension
extension_by d = extension_as d d.scope

abbrev pub extensions_in : Thorn → List Extension
extensions_in t = flat_map extension_by t.params

abbrev pub extensions : List Thorn → List Extension
extensions thorns = flat_map extensions_in thorns

-- what extensions add to the parameter of a full name
abbrev pub added_by : List ℕ → Extension → List Range
added_by full e = if same_name e.full full then e.ranges else []

abbrev pub added : List Extension → List ℕ → List Range
added es full = flat_map (added_by full) es

-- A thorn's parameter has the ranges of all its extensions too. To a built-in one nothing is added.
abbrev pub extended : List Extension → Param → Param
extended es p = record {
  full = p.full;
  thorn = p.thorn;
  decl = p.decl;
  ranges = p.ranges ++ added es p.full;
}

-- the parameter that a line declares, if it declares one, with the ranges of all its extensions
abbrev pub extended_as : List Extension → ℕ → Thorn → ParamDecl → List Param
extended_as es number t d = map (extended es) (declared_as number t d)

abbrev pub thorn_parameters : List Extension → List Thorn → List Param
thorn_parameters es thorns = map (extended es) (flat_map declared_by (enumerate_from 0 thorns))

abbrev pub parameters : List Thorn → List Param
parameters thorns = table (length thorns) ++ thorn_parameters (extensions thorns) thorns
