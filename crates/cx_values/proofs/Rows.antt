-- Worked rows: the values of some thorns' parameters, and their faults.
use Rattle.std.specs.Prelude.{◌≡◌, refl, ℕ, pos, List, [], ◌∷◌, codes, Option, Some, None}
use Rattle.cx_param.specs.declared.ranges.Range.TheVariants.{Word}
use Rattle.cx_param.specs.declared.ranges.Value.TheVariants as values
use Rattle.cx_param.specs.declared.declarations.PType.TheVariants.{Keyword, Int, Boolean}
use Rattle.cx_param.specs.declared.declarations.Scope.TheVariants as scopes
use Rattle.cx_param.specs.declared.declarations.ParamDecl.{ParamDecl}
use Rattle.cx_parfile.specs.declared.settings.Setting.{Setting}
use Rattle.cx_expr.specs.Known.{NumberOf, Nothing}
use Rattle.cx_bind.specs.declared.thorns.Thorn.{Thorn}
use Rattle.cx_bind.specs.BuiltIn.{from_to}
use Rattle.cx_bind.proofs.Samples.{decl, thorn}
use Rattle.cx_values.specs.declared.fault.ValueFault.TheVariants.{BadDefault, UnknownParam, Index, BadSpelling, OutOfRange, Twice}
use Rattle.cx_values.specs.Naming.{names}
use Rattle.cx_values.specs.Faults.{assign_fault}
use Rattle.cx_values.specs.Assigned.{assigned, get, number, thorn_finds}

abbrev by_default : List ℕ → ParamDecl → ParamDecl
by_default text d = record d { default = Some text }

abbrev elem_ca : Thorn
elem_ca = thorn (codes "ElemCA") (codes "ca") [] []
    (by_default (codes "90")
    (decl scopes.Restricted Int (codes "rule") (from_to (pos 0) (pos 255) ∷ [])) ∷ [])

abbrev set_at : Option ℕ → List ℕ → List ℕ → List ℕ → ℕ → Setting
set_at index owner name value line =
    record { owner = Some owner; name = name; index = index; value = value; line = line }

abbrev set : List ℕ → List ℕ → List ℕ → ℕ → Setting
set owner name value line = set_at None owner name value line

abbrev set_alone : List ℕ → List ℕ → ℕ → Setting
set_alone name value line =
    record { owner = None; name = name; index = None; value = value; line = line }

-- ---- faults

row_range : assign_fault (elem_ca ∷ []) (set (codes "ca") (codes "rule") (codes "256") 3 ∷ [])
    ≡ Some (OutOfRange 3)
unfolding assign_fault names
row_range = refl

row_spelling : assign_fault (elem_ca ∷ []) (set (codes "ca") (codes "rule") (codes "x") 3 ∷ [])
    ≡ Some (BadSpelling 3)
unfolding assign_fault names
row_spelling = refl

row_unknown : assign_fault (elem_ca ∷ []) (set (codes "ca") (codes "ruler") (codes "3") 3 ∷ [])
    ≡ Some (UnknownParam 3)
unfolding assign_fault names
row_unknown = refl

row_index : assign_fault (elem_ca ∷ [])
    (set_at (Some 0) (codes "ca") (codes "rule") (codes "3") 3 ∷ []) ≡ Some (Index 3)
unfolding assign_fault names
row_index = refl

-- by its thorn, and then by its full name
row_twice : assign_fault (elem_ca ∷ [])
    (set (codes "ElemCA") (codes "rule") (codes "3") 3
    ∷ set (codes "ca") (codes "rule") (codes "4") 4 ∷ []) ≡ Some (Twice 4)
unfolding assign_fault names
row_twice = refl

row_bad_default : assign_fault
    (thorn (codes "T") (codes "t") [] []
    (by_default (codes "10") (decl scopes.Restricted Int (codes "n") (from_to (pos 0) (pos 9) ∷ []))
    ∷ []) ∷ []) [] ≡ Some (BadDefault (codes "t::n"))
unfolding assign_fault names
row_bad_default = refl

row_yes : assign_fault [] (set (codes "driver") (codes "periodic") (codes "2") 7 ∷ [])
    ≡ Some (BadSpelling 7)
unfolding assign_fault names
row_yes = refl

row_lead : assign_fault [] (set (codes "PUGH") (codes "lead") (codes "65") 7 ∷ [])
    ≡ Some (OutOfRange 7)
unfolding assign_fault names
row_lead = refl

row_widths : assign_fault [] (set (codes "driver") (codes "widths_x") (codes " 3 16777217") 7 ∷ [])
    ≡ Some (BadSpelling 7)
unfolding assign_fault names
row_widths = refl

-- the folder of recovery is that of checkpoints, which a later line sets
row_recover : assign_fault []
    (set (codes "IO") (codes "recover_dir") (codes "a") 1
    ∷ set (codes "IO") (codes "checkpoint_dir") (codes "a") 2 ∷ []) ≡ None
unfolding assign_fault names
row_recover = refl

row_recover_elsewhere : assign_fault []
    (set (codes "IO") (codes "recover_dir") (codes ".") 1
    ∷ set (codes "IOUtil") (codes "checkpoint_dir") (codes "a") 2 ∷ []) ≡ Some (OutOfRange 1)
unfolding assign_fault names
row_recover_elsewhere = refl

-- ---- values

row_thorn : number (assigned (elem_ca ∷ [])
    (set (codes "elemca") (codes "Rule") (codes "3") 3 ∷ [])) (codes "ca::rule") None ≡ Some (pos 3)
unfolding assigned names
row_thorn = refl

row_default : get (assigned (elem_ca ∷ []) []) (codes "CA::rule") None
    ≡ Some (values.Number (pos 90))
unfolding assigned names
row_default = refl

row_folder : get (assigned [] (set (codes "IO") (codes "checkpoint_dir") (codes "a") 2 ∷ []))
    (codes "IO::recover_dir") None ≡ Some (values.Text (codes "a"))
unfolding assigned names
row_folder = refl

row_flag : number (assigned [] (set (codes "driver") (codes "periodic") (codes "YES") 1 ∷ []))
    (codes "driver::periodic") None ≡ Some (pos 1)
unfolding assigned names
row_flag = refl

-- a word's number goes on behind the declared ones, and its value is the declared word
abbrev waves : List Thorn
waves =
    thorn (codes "More") (codes "more") [] []
    (decl (scopes.Extends (codes "wave")) Keyword (codes "pattern") (Word (codes "saw") ∷ [])
    ∷ [])
    ∷ thorn (codes "Wave") (codes "wave") [] []
    (by_default (codes "point")
    (decl scopes.Restricted Keyword (codes "pattern")
    (Word (codes "point") ∷ Word (codes "uniform") ∷ [])) ∷ [])
    ∷ []

row_word : number (assigned waves (set (codes "wave") (codes "pattern") (codes "SAW") 1 ∷ []))
    (codes "wave::pattern") None ≡ Some (pos 2)
unfolding assigned names
row_word = refl

row_declared : get (assigned waves (set (codes "wave") (codes "pattern") (codes "SAW") 1 ∷ []))
    (codes "wave::pattern") None ≡ Some (values.Text (codes "saw"))
unfolding assigned names
row_declared = refl

-- ---- names

-- a private parameter, an array and a global one
abbrev named : List Thorn
named =
    thorn (codes "T") (codes "i") [] []
    (by_default (codes "no") (decl scopes.Private Boolean (codes "p") [])
    ∷ record (by_default (codes "1")
    (decl scopes.Restricted Int (codes "a") (from_to (pos 0) (pos 9) ∷ []))) { length = Some 2 }
    ∷ by_default (codes "1") (decl scopes.Global Int (codes "g") (from_to (pos 0) (pos 9) ∷ []))
    ∷ [])
    ∷ thorn (codes "U") (codes "u") [] []
    (record (decl (scopes.Uses (codes "I")) Int (codes "a") []) { alias = Some (codes "b") }
    ∷ [])
    ∷ []

row_private : assign_fault named (set (codes "t") (codes "p") (codes "y") 1 ∷ []) ≡ None
unfolding assign_fault names
row_private = refl

row_not_private : assign_fault named (set (codes "i") (codes "p") (codes "y") 1 ∷ [])
    ≡ Some (UnknownParam 1)
unfolding assign_fault names
row_not_private = refl

row_alone : number (assigned named (set_alone (codes "g") (codes "5") 1 ∷ [])) (codes "i::g") None
    ≡ Some (pos 5)
unfolding assigned names
row_alone = refl

row_not_alone : assign_fault named (set_alone (codes "a") (codes "5") 1 ∷ [])
    ≡ Some (UnknownParam 1)
unfolding assign_fault names
row_not_alone = refl

row_element : number (assigned named (set_at (Some 1) (codes "T") (codes "a") (codes "5") 1 ∷ []))
    (codes "i::a") (Some 1) ≡ Some (pos 5)
unfolding assigned names
row_element = refl

row_no_element : number (assigned named []) (codes "i::a") (Some 2) ≡ None
unfolding assigned names
row_no_element = refl

row_used : thorn_finds (assigned named []) 1 (codes "b") (Some 0) ≡ NumberOf (pos 1)
unfolding assigned names
row_used = refl

row_not_used : thorn_finds (assigned named []) 1 (codes "a") (Some 0) ≡ Nothing
unfolding assigned names
row_not_used = refl

row_global : thorn_finds (assigned named []) 1 (codes "g") None ≡ NumberOf (pos 1)
unfolding assigned names
row_global = refl
