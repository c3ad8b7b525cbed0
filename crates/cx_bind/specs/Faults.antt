-- Why thorns can't be bound. Within a kind of fault, the first thorn in the order of activation
-- counts.
use Rattle.std.specs.Prelude.{ℕ, ◌==◌, Bool, true, false, not, ◌&&◌, ◌||◌, nat_lt, List, [], ◌∷◌, ◌++◌, map, find, Option, Some, None, if◌then◌else◌}
use Rattle.std.specs.List.{list_any}
use Rattle.std.specs.Option.{option_map}
use Rattle.std.specs.Borrow.{Bor}
use Rattle.cx_text.specs.Lexemes.{same_name, among}
use Rattle.cx_text.specs.declared.ctype.CType.{CType}
use Rattle.cx_text.specs.declared.ctype.CType.TheVariants as types
use Rattle.cx_iface.specs.declared.tree.GType.{GType}
use Rattle.cx_iface.specs.declared.tree.GType.TheVariants.{Gf, Array, Scalar}
use Rattle.cx_iface.specs.declared.tree.Group.{Group}
use Rattle.cx_param.specs.declared.declarations.PType.{PType}
use Rattle.cx_param.specs.declared.declarations.PType.TheVariants.{Boolean, Int, Keyword, String, Real}
use Rattle.cx_param.specs.declared.declarations.ParamDecl.{ParamDecl}
use Rattle.cx_param.specs.declared.ranges.Range.{Range}
use Rattle.cx_param.specs.declared.ranges.Range.TheVariants.{Ints, Word, AnyText, SomeText, Other}
use Rattle.cx_plan.specs.Names.{full_name}
use Rattle.cx_plan.specs.Lists.{or_else, first_of_each, first_again}
use Rattle.cx_plan.specs.declared.variable.VarInfo.{VarInfo}
use Rattle.cx_bind.specs.declared.thorns.Thorn.{Thorn}
use Rattle.cx_bind.specs.declared.thorns.BindFault.{BindFault}
use Rattle.cx_bind.specs.declared.thorns.BindFault.TheVariants.{TwoProviders, MissingImplementation, MissingCapability, MissingThorn, NoParameter, WrongType, TwoVariables, TwoParameters, Unsupported, TwoDims, Limit}
use Rattle.cx_bind.specs.declared.providers.Provider.{Provider}
use Rattle.cx_bind.specs.declared.known.Known.{Known}
use Rattle.cx_bind.specs.BuiltIn.{provider, built_in}
use Rattle.cx_bind.specs.Variables.{group_full}
use Rattle.cx_bind.specs.NameSets.{has, first_absent}
use Rattle.cx_bind.specs.Parameters.{shared_by, shared_parameter}

-- ---- what is active

-- the built-in thorns and the others, with what they implement
abbrev pub providers : List Thorn → List Provider
providers thorns = built_in ++ map (λ t. provider t.interface.implements t.name) thorns

abbrev pub implements : List ℕ → Provider → Bool
implements implementation p = same_name p.implementation implementation

abbrev pub is_implemented : List Provider → List ℕ → Bool
is_implemented ps implementation = list_any (implements implementation) ps

abbrev pub is_active : List Provider → List ℕ → Bool
is_active ps thorn = list_any (λ p. same_name p.thorn thorn) ps

abbrev pub is_provided : List Thorn → List ℕ → Bool
is_provided thorns capability = list_any (λ t. among t.conf.provides capability) thorns

-- ---- the faults

-- a fault where a condition holds
abbrev pub fault_if : Bool → BindFault → Option BindFault
fault_if holds fault = if holds then Some fault else None

-- the first provider that a later one repeats, and the first that does
abbrev pub repeated : Provider → Option Provider → Option BindFault
repeated a None = None
repeated a (Some b) = Some (TwoProviders a.implementation a.thorn b.thorn)

abbrev pub two_providers : List Provider → Option BindFault
two_providers [] = None
two_providers (a ∷ ps) =
    or_else (repeated a (find (implements a.implementation) ps)) (two_providers ps)

-- a pair that is lent, as the fault that it is
abbrev pub told_by : Option (Bor Provider × Bor Provider) → Option BindFault
told_by None = None
told_by (Some pair) = repeated pair.0.now (Some pair.1.now)

abbrev pub missing : (List ℕ → BindFault) → (List ℕ → Bool) → List (List ℕ) → Option BindFault
missing fault there names = option_map fault (first_absent there names)

-- a line of a param file names an implementation that isn't active
abbrev pub missing_shared : List Provider → Thorn → Option (List ℕ) → Option BindFault
missing_shared ps t None = None
missing_shared ps t (Some i) = if is_implemented ps i then None
    else Some (MissingImplementation t.name i)

abbrev pub missing_by_line : List Provider → Thorn → ParamDecl → Option BindFault
missing_by_line ps t d = missing_shared ps t (shared_by d.scope)

abbrev pub missing_inherited : List Provider → Thorn → Option BindFault
missing_inherited ps t =
    missing (λ i. MissingImplementation t.name i) (is_implemented ps) t.interface.inherits

abbrev pub missing_implementation_of : List Provider → Thorn → Option BindFault
missing_implementation_of ps t =
    or_else (missing_inherited ps t) (first_of_each (missing_by_line ps t) t.params)

abbrev pub missing_implementation : List Provider → List Thorn → Option BindFault
missing_implementation ps thorns = first_of_each (missing_implementation_of ps) thorns

-- a thorn's, by a test of what is provided
abbrev pub missing_capability_of : (List ℕ → Bool) → Thorn → Option BindFault
missing_capability_of there t = missing (λ c. MissingCapability t.name c) there t.conf.requires_

abbrev pub missing_capability : List Thorn → List Thorn → Option BindFault
missing_capability all thorns = first_of_each (missing_capability_of (is_provided all)) thorns

abbrev pub missing_thorn_of : List Provider → Thorn → Option BindFault
missing_thorn_of ps t = missing (λ other. MissingThorn t.name other) (is_active ps) t.conf.thorns

abbrev pub missing_thorn : List Provider → List Thorn → Option BindFault
missing_thorn ps thorns = first_of_each (missing_thorn_of ps) thorns

-- a use or an extension names no parameter that thorns can use
abbrev pub no_parameter_at : Thorn → ParamDecl → List ℕ → Option Known → Option BindFault
no_parameter_at t d i (Some k) = None
no_parameter_at t d i None = Some (NoParameter t.name i d.name)

abbrev pub no_parameter_by : List Known → Thorn → ParamDecl → Option (List ℕ) → Option BindFault
no_parameter_by knowns t d None = None
no_parameter_by knowns t d (Some i) =
    no_parameter_at t d i (shared_parameter knowns (full_name i d.name))

abbrev pub no_parameter_in : List Known → Thorn → ParamDecl → Option BindFault
no_parameter_in knowns t d = no_parameter_by knowns t d (shared_by d.scope)

abbrev pub no_parameter : List Known → List Thorn → Option BindFault
no_parameter knowns thorns =
    first_of_each (λ t. first_of_each (no_parameter_in knowns t) t.params) thorns

abbrev pub type_number : PType → ℕ
type_number Boolean = 0
type_number Int = 1
type_number Keyword = 2
type_number String = 3
type_number Real = 4

abbrev pub is_same_type : PType → PType → Bool
is_same_type a b = type_number a == type_number b

-- its type isn't the declared one
abbrev pub wrong_type_at : Thorn → ParamDecl → Option Known → Option BindFault
wrong_type_at t d None = None
wrong_type_at t d (Some k) = if is_same_type d.ptype k.ptype then None
    else Some (WrongType t.name d.name)

abbrev pub wrong_type_by : List Known → Thorn → ParamDecl → Option (List ℕ) → Option BindFault
wrong_type_by knowns t d None = None
wrong_type_by knowns t d (Some i) = wrong_type_at t d (shared_parameter knowns (full_name i d.name))

abbrev pub wrong_type_in : List Known → Thorn → ParamDecl → Option BindFault
wrong_type_in knowns t d = wrong_type_by knowns t d (shared_by d.scope)

abbrev pub wrong_type : List Known → List Thorn → Option BindFault
wrong_type knowns thorns =
    first_of_each (λ t. first_of_each (wrong_type_in knowns t) t.params) thorns

-- the first variable that has the full name of one before it
abbrev pub is_same_variable : VarInfo → VarInfo → Bool
is_same_variable a b = same_name a.full b.full

abbrev pub two_variables : List VarInfo → Option BindFault
two_variables infos = option_map (λ v. TwoVariables v.full) (first_again is_same_variable infos)

-- the first parameter that has the full name of one before it, or, both being global, its name
abbrev pub clash : Known → Known → Bool
clash a b = same_name a.full b.full || (a.global && (b.global && same_name a.name b.name))

-- whether a parameter clashes with one before it, by the names of those and by the names of the
-- global ones among them
abbrev pub is_clashing : List (List ℕ) → List (List ℕ) → Known → Bool
is_clashing names globals k = has names k.full || (k.global && has globals k.name)

abbrev pub two_parameters : List Known → Option BindFault
two_parameters knowns = option_map (λ k. TwoParameters k.full) (first_again clash knowns)

-- what is read, and that no run serves
abbrev pub is_unsupported_type : CType → Bool
is_unsupported_type types.Char = true
is_unsupported_type types.Real = true
is_unsupported_type types.Complex = true
is_unsupported_type types.Byte = false
is_unsupported_type types.Int = false
is_unsupported_type types.Int2 = false
is_unsupported_type types.Int4 = false
is_unsupported_type types.Int8 = false

abbrev pub is_unsupported_kind : GType → ℕ → Bool
is_unsupported_kind Array levels = true
is_unsupported_kind Scalar levels = nat_lt 1 levels
is_unsupported_kind Gf levels = false

abbrev pub is_unsupported_group : Group → Bool
is_unsupported_group g = is_unsupported_type g.ctype || is_unsupported_kind g.gtype g.levels

abbrev pub is_word : Range → Bool
is_word (Word text) = true
is_word (Ints low low_in high high_in step) = false
is_word AnyText = false
is_word SomeText = false
is_word (Other tokens) = false

-- a REAL parameter, and a STRING with a range that is read as a word
abbrev pub is_unsupported_parameter : PType → List Range → Bool
is_unsupported_parameter Real ranges = true
is_unsupported_parameter String ranges = list_any is_word ranges
is_unsupported_parameter Boolean ranges = false
is_unsupported_parameter Int ranges = false
is_unsupported_parameter Keyword ranges = false

abbrev pub is_unsupported_line : ParamDecl → Bool
is_unsupported_line d = is_unsupported_parameter d.ptype d.ranges

abbrev pub unsupported_group : Thorn → Option BindFault
unsupported_group t = option_map (λ g. Unsupported t.name g.name)
    (find is_unsupported_group t.interface.groups)

abbrev pub unsupported_line : Thorn → Option BindFault
unsupported_line t = option_map (λ d. Unsupported t.name d.name) (find is_unsupported_line t.params)

-- a thorn's groups, and then its parameters
abbrev pub unsupported_of : Thorn → Option BindFault
unsupported_of t = or_else (unsupported_group t) (unsupported_line t)

abbrev pub unsupported : List Thorn → Option BindFault
unsupported thorns = first_of_each unsupported_of thorns

abbrev pub is_grid : GType → Bool
is_grid Gf = true
is_grid Array = false
is_grid Scalar = false

-- a group of grid functions, and where a number is given, of another number of directions
abbrev pub is_grid_but : Option ℕ → Group → Bool
is_grid_but None g = is_grid g.gtype
is_grid_but (Some dim) g = is_grid g.gtype && not (g.dim == dim)

-- the first such group of all, with its thorn
abbrev pub with_thorn : Thorn → Option Group → Option (Thorn × Group)
with_thorn t None = None
with_thorn t (Some g) = Some (t, g)

abbrev pub first_group : (Group → Bool) → List Thorn → Option (Thorn × Group)
first_group test thorns = first_of_each (λ t. with_thorn t (find test t.interface.groups)) thorns

-- the first group of grid functions, and the first that has another number of directions
abbrev pub differing : Thorn × Group → Option (Thorn × Group) → Option BindFault
differing a None = None
differing a (Some b) = Some (TwoDims (group_full a.0 a.1) (group_full b.0 b.1))

abbrev pub two_dims_from : List Thorn → Option (Thorn × Group) → Option BindFault
two_dims_from thorns None = None
two_dims_from thorns (Some a) = differing a (first_group (is_grid_but (Some a.1.dim)) thorns)

abbrev pub two_dims : List Thorn → Option BindFault
two_dims thorns = two_dims_from thorns (first_group (is_grid_but None) thorns)

-- a pair that is lent, as what is lent
abbrev pub lent : Option (Bor Thorn × Bor Group) → Option (Thorn × Group)
lent None = None
lent (Some pair) = Some (pair.0.now, pair.1.now)

-- more than a limit allows
abbrev pub over : List ℕ → ℕ → ℕ → Option BindFault
over what number limit = if nat_lt limit number then Some (Limit what number) else None
