-- The thorn list.
use Rattle.std.specs.Prelude.{ℕ, ◌+◌, ◌-◌, nat_eq, position, nat_lt, ◌||◌, Bool, false, cond, List, [], ◌∷◌, ◌++◌, length, take, drop, Option, Some, None}
use Rattle.std.specs.List.{list_any}
use Rattle.cx_text.specs.declared.stop.Mark.{Mark}
use Rattle.cx_text.specs.declared.stop.Mark.TheVariants.{Limit}
use Rattle.cx_text.specs.declared.token.Token.{Token}
use Rattle.cx_conf.specs.declared.thorn_list.ThornList.{ThornList}
use Rattle.cx_conf.specs.declared.thorn_list.Places.{Places}
use Rattle.cx_text.specs.Tokens.{is_word}
use Rattle.cx_text.specs.Rules.{Rule, token, nothing, ◌>>=◌, loop, one_line_end}
use Rattle.cx_text.specs.Lexemes.{first_mark}
use Rattle.cx_text.specs.Bytes.{is_slash}

-- an arrangement, and a thorn in it
abbrev pub Place : Type 0
Place = List ℕ × List ℕ

abbrev pub is_empty : List ℕ → Bool
is_empty name = nat_eq (length name) 0

-- the names before a slash and behind it, if both are names
abbrev pub names_at : List ℕ → ℕ → Option Place
names_at text i = cond (is_empty (take i text) || is_empty (drop (i + 1) text)
    || list_any is_slash (drop (i + 1) text)) None (Some (take i text, drop (i + 1) text))

abbrev pub parted : List ℕ → Option ℕ → Option Place
parted text None = None
parted text (Some i) = names_at text i

-- the two names round the one slash
abbrev pub place_in : List ℕ → Option Place
place_in text = parted text (position is_slash text)

abbrev pub place_of : Token → Option Place
place_of t = cond (is_word t) (place_in t.text) None

abbrev pub is_long : Option Place → Bool
is_long None = false
is_long (Some p) = nat_lt 64 (length p.0) || nat_lt 64 (length p.1)

-- where so many lines are left that may stand
abbrev pub place_mark : ℕ → Token → Option Mark
place_mark left t = first_mark (nat_eq left 0 || is_long (place_of t)) Limit None

-- Word LineEnd
abbrev pub line : Places → Rule Places
line s = do
  p ← token place_of (place_mark s.left)
  u ← one_line_end tt
  nothing (record { left = s.left - 1; places = s.places ++ p ∷ [] })

-- file = { Word LineEnd }
abbrev pub thorn_list : Rule ThornList
thorn_list = do
  s ← loop is_word line (record { left = 4096; places = [] })
  nothing (record { places = s.places })
