-- Which thorns are selected: the places of the active ones in the list of thorns.
use Rattle.std.specs.Prelude.{ℕ, Bool, not, ◌&&◌, nat_lt, List, map, filter, find, count_by, Option, Some, None, Result, Ok, Err, if◌then◌else◌}
use Rattle.cx_text.specs.Lexemes.{same_name, among}
use Rattle.cx_plan.specs.Lists.{once, all_ok}
use Rattle.cx_conf.specs.declared.thorn_list.ThornList.{ThornList}
use Rattle.cx_bind.specs.declared.thorns.BindFault.{BindFault}
use Rattle.cx_bind.specs.declared.thorns.BindFault.TheVariants.{UnknownThorn, TwoThorns}
use Rattle.cx_bind.specs.BuiltIn.{built_in_thorns}
use Rattle.cx_bind.specs.NameSets.{has}

-- an arrangement and a thorn
abbrev pub Place : Type 0
Place = List ℕ × List ℕ

abbrev pub is_place_of : List ℕ → Place → Bool
is_place_of name place = same_name place.1 name

-- the one place of a thorn: none is a fault, and so are several
abbrev pub the_place : List ℕ → Option Place → Bool → Result Place BindFault
the_place name None several = Err (UnknownThorn name)
the_place name (Some place) several = if several then Err (TwoThorns name) else Ok place

abbrev pub place_of : List Place → List ℕ → Result Place BindFault
place_of places name = the_place name (find (is_place_of name) places)
    (nat_lt 1 (count_by (is_place_of name) places))

-- the active thorns but the built-in ones, each once, in the order of activation
abbrev pub chosen : List (List ℕ) → List (List ℕ)
chosen active = once same_name (filter (λ name. not (among built_in_thorns name)) active)

-- a thorn that isn't built in, and isn't among those before it
abbrev pub is_next : List (List ℕ) → List ℕ → Bool
is_next there name = not (among built_in_thorns name) && not (has there name)

abbrev pub select : ThornList → List (List ℕ) → Result (List Place) BindFault
select list active = all_ok (map (place_of list.places) (chosen active))
