-- Worked rows: what the definitions say of some thorns.
use Rattle.std.specs.Prelude.{◌≡◌, refl, ℕ, pos, List, [], ◌∷◌, codes, map, drop, length, Option, Some, None, Ok, Err}
use Rattle.cx_text.specs.declared.ctype.CType.TheVariants.{Real}
use Rattle.cx_iface.specs.declared.tree.Access.TheVariants.{Public, Private}
use Rattle.cx_param.specs.declared.ranges.Range.TheVariants.{Word}
use Rattle.cx_param.specs.declared.declarations.PType.TheVariants.{Keyword, Int, Boolean}
use Rattle.cx_param.specs.declared.declarations.Scope.TheVariants as scopes
use Rattle.cx_conf.specs.declared.thorn_list.ThornList.{ThornList}
use Rattle.cx_bind.specs.declared.thorns.Thorn.{Thorn}
use Rattle.cx_bind.specs.declared.thorns.Param.{Param}
use Rattle.cx_bind.specs.declared.thorns.BindFault.TheVariants.{UnknownThorn, TwoThorns, TwoProviders, MissingImplementation, MissingThorn, NoParameter, WrongType, TwoVariables, TwoParameters, Unsupported, TwoDims}
use Rattle.cx_bind.specs.BuiltIn.{table, from_to}
use Rattle.cx_bind.specs.Variables.{Variable, variables, variable_infos, level_full}
use Rattle.cx_bind.specs.Parameters.{parameters}
use Rattle.cx_bind.specs.Selecting.{select}
use Rattle.cx_bind.specs.Binding.{bind_fault}
use Rattle.cx_bind.proofs.Samples.{nothing_configured, decl, scalar_group, grid_group, thorn, elem_ca}

-- ---- selecting

abbrev places : ThornList
places =
    record {
      places = (codes "Integer", codes "ElemCA") ∷ (codes "CactusPUGH", codes "PUGH")
          ∷ (codes "A", codes "Twice") ∷ (codes "B", codes "Twice") ∷ [];
    }

row_select : select places (codes "PUGH" ∷ codes "elemca" ∷ codes "ElemCA" ∷ [])
    ≡ Ok ((codes "Integer", codes "ElemCA") ∷ [])
row_select = refl

row_unknown : select places (codes "ElemCA" ∷ codes "Xyz" ∷ codes "Twice" ∷ [])
    ≡ Err (UnknownThorn (codes "Xyz"))
row_unknown = refl

row_twice : select places (codes "twice" ∷ codes "Xyz" ∷ []) ≡ Err (TwoThorns (codes "twice"))
row_twice = refl

-- ---- names and ranges

row_bound : bind_fault (elem_ca ∷ []) ≡ None
unfolding bind_fault
row_bound = refl

row_names : map (λ v. v.full) (variable_infos (elem_ca ∷ []))
    ≡ codes "ca::cell" ∷ codes "ca::live" ∷ []
row_names = refl

row_levels : map (λ (v : Variable). level_full v 2) (variables (elem_ca ∷ []))
    ≡ codes "ca::cell_p_p" ∷ codes "ca::live_p_p" ∷ []
row_levels = refl

row_table : length (table 2) ≡ 37
row_table = refl

row_balance : map {B = List ℕ × Option (List ℕ)} (λ (p : Param). (p.full, p.decl.default))
    (drop 34 (table 2))
    ≡ (codes "driver::balance", Some (codes "no")) ∷ (codes "driver::weight", Some [])
    ∷ (codes "driver::weight_factor", Some (codes "1")) ∷ []
row_balance = refl

row_parameters : map {B = List ℕ × ℕ} (λ (p : Param). (p.full, p.thorn))
    (drop 37 (parameters (elem_ca ∷ [])))
    ≡ (codes "ca::rule", 0) ∷ (codes "ca::start", 0) ∷ (codes "ca::seed", 0) ∷ []
row_parameters = refl

abbrev extending : Thorn
extending = thorn (codes "E") (codes "e") [] []
    (decl (scopes.Extends (codes "CA")) Int (codes "Rule") (from_to (pos 300) (pos 300) ∷ []) ∷ [])

-- an extension adds ranges behind the declared ones
row_extended : map (λ (p : Param). p.ranges) (drop 37 (parameters (extending ∷ elem_ca ∷ [])))
    ≡ (from_to (pos 0) (pos 255) ∷ from_to (pos 300) (pos 300) ∷ [])
    ∷ map (λ d. d.ranges) (drop 1 elem_ca.params)
row_extended = refl

-- ---- faults

row_two : bind_fault (elem_ca ∷ thorn (codes "Other") (codes "CA") [] [] [] ∷ [])
    ≡ Some (TwoProviders (codes "ca") (codes "ElemCA") (codes "Other"))
unfolding bind_fault
row_two = refl

-- the first one that a later one repeats
row_two_built_in : bind_fault
    (thorn (codes "A") (codes "x") [] [] [] ∷ thorn (codes "B") (codes "x") [] [] []
    ∷ thorn (codes "C") (codes "DRIVER") [] [] [] ∷ [])
    ≡ Some (TwoProviders (codes "driver") (codes "PUGH") (codes "C"))
unfolding bind_fault
row_two_built_in = refl

row_implementation : bind_fault
    (thorn (codes "A") (codes "x") (codes "IO" ∷ codes "y" ∷ []) [] [] ∷ [])
    ≡ Some (MissingImplementation (codes "A") (codes "y"))
unfolding bind_fault
row_implementation = refl

row_thorn : bind_fault (record (thorn (codes "N") (codes "n") [] [] [])
    { conf = record nothing_configured { thorns = codes "pugh" ∷ codes "Absent" ∷ [] } } ∷ [])
    ≡ Some (MissingThorn (codes "N") (codes "Absent"))
unfolding bind_fault
row_thorn = refl

-- an extension of a parameter that isn't there, and of one that no thorn can use
row_no_parameter : bind_fault
    (elem_ca ∷ thorn (codes "E") (codes "e") [] []
    (decl (scopes.Extends (codes "ca")) Keyword (codes "absent") (Word (codes "w") ∷ []) ∷ []) ∷ [])
    ≡ Some (NoParameter (codes "E") (codes "ca") (codes "absent"))
unfolding bind_fault
row_no_parameter = refl

row_starred : bind_fault
    (thorn (codes "E") (codes "e") [] []
    (decl (scopes.Extends (codes "IO")) Keyword (codes "recover") (Word (codes "w") ∷ []) ∷ [])
    ∷ []) ≡ Some (NoParameter (codes "E") (codes "IO") (codes "recover"))
unfolding bind_fault
row_starred = refl

row_starred_of_driver : bind_fault
    (thorn (codes "E") (codes "e") [] []
    (decl (scopes.Uses (codes "driver")) Int (codes "weight_factor") [] ∷ []) ∷ [])
    ≡ Some (NoParameter (codes "E") (codes "driver") (codes "weight_factor"))
unfolding bind_fault
row_starred_of_driver = refl

row_type : bind_fault (elem_ca
    ∷ thorn (codes "E") (codes "e") [] []
    (decl (scopes.Uses (codes "ca")) Boolean (codes "rule") [] ∷ []) ∷ [])
    ≡ Some (WrongType (codes "E") (codes "rule"))
unfolding bind_fault
row_type = refl

row_variables : bind_fault
    (thorn (codes "V") (codes "i") []
    (scalar_group Public (codes "a") (codes "v" ∷ codes "w" ∷ [])
    ∷ scalar_group Public (codes "c") (codes "W" ∷ []) ∷ []) [] ∷ [])
    ≡ Some (TwoVariables (codes "i::W"))
unfolding bind_fault
row_variables = refl

row_globals : bind_fault
    (thorn (codes "P") (codes "p") [] [] (decl scopes.Global Int (codes "n") [] ∷ [])
    ∷ thorn (codes "Q") (codes "q") [] [] (decl scopes.Global Int (codes "N") [] ∷ []) ∷ [])
    ≡ Some (TwoParameters (codes "q::N"))
unfolding bind_fault
row_globals = refl

row_real : bind_fault (thorn (codes "R") (codes "r") []
    (record (scalar_group Public (codes "g") (codes "v" ∷ [])) { ctype = Real } ∷ []) [] ∷ [])
    ≡ Some (Unsupported (codes "R") (codes "g"))
unfolding bind_fault
row_real = refl

row_dims : bind_fault (thorn (codes "D") (codes "d") []
    (grid_group Private (codes "g") 1 [] ∷ grid_group Public (codes "h") 2 [] ∷ []) [] ∷ [])
    ≡ Some (TwoDims (codes "D::g") (codes "d::h"))
unfolding bind_fault
row_dims = refl
