-- The parameter file is read as its grammar derives it.
use Rattle.std.proofs.Common.{ℕ, Bool, true, false, List, [], ◌∷◌, Option, None, refl}
use Rattle.cx_text.specs.declared.token.Token.{Token}
use Rattle.cx_text.specs.Tokens.{is_word}
use Rattle.cx_text.specs.Rules.{is_sign}
use Rattle.cx_parfile.specs.declared.settings.Settings.{Settings}
use Rattle.cx_parfile.specs.declared.reader.Name.{Name}
use Rattle.cx_parfile.specs.declared.reader.Read.{Read}
use Rattle.cx_parfile.specs.ParFile.{name_of, index_of, value_of, bracketed, active, setting, is_active, behind_word, line, parameter_file}
use Rattle.cx_text.proofs.Laws.{Means}
use Rattle.cx_text.proofs.Loops.{Short}
use Rattle.cx_text.proofs.RuleLaws.{Good, Part, Any, Not, short_part, token_then, token_last, a_line_end, tail_loop, tail_then, tail_end, Tail, empty_then, option_good, option_empty, part_choice, weaker_good, part_then}
use Rattle.cx_text.proofs.LexemeLaws.{a_word, sign_is}

abbrev pub a_name : Means name_of
a_name = record {
  tok = a_word (97 ∷ []);
  x = record { owner = None; name = 97 ∷ []; line = 0 };
  is = refl;
}

abbrev an_index : Means index_of
an_index = record { tok = a_word (48 ∷ []); x = 0; is = refl }

abbrev a_value : (base : List ℕ) → Means (value_of base)
a_value base = record { tok = a_word (97 ∷ []); x = 97 ∷ []; is = refl }

pub bracketed_part : Part bracketed Any Any
bracketed_part = token_then (sign_is 91 refl) tt
    (λ u. token_then {F = Any} {G = Any} an_index tt
    (λ i. token_last {F = Any} (sign_is 93 refl) tt))

-- what doesn't begin with a bracket
abbrev pub NoBracket : Option Token → Type 0
NoBracket = Not (is_sign 91)

active_part : (base : List ℕ) (s : Settings) → Part (active base s) NoBracket Any
active_part base s = token_then (sign_is 61 refl) refl (λ u. token_last {F = Any} (a_value base) tt)

setting_part : (base : List ℕ) (n : Name) (s : Settings) → Part (setting base n s) NoBracket Any
setting_part base n s =
    empty_then {G = NoBracket}
    (option_good (weaker_good bracketed_part.good (λ m h. tt)) bracketed_part.full (λ m h. h))
    (option_empty bracketed None) (λ m h. (h, h))
    (λ i. token_then (sign_is 61 refl) refl (λ u. token_last {F = Any} (a_value base) tt))

behind_part : (base : List ℕ) (b : Bool) (n : Name) (s : Settings)
    → Part (behind_word base b n s) NoBracket Any
behind_part base true n s = part_choice (setting_part base n s) (active_part base s) (λ m h. h)
behind_part base false n s = setting_part base n s

line_part : (base : List ℕ) (r : Read) → Part (line base r) Any Any
line_part base r = token_then {G = NoBracket} a_name tt
    (λ n. part_then {G = Any} None tt (behind_part base (is_active n) n r.settings)
    (λ s. token_last {F = Any} a_line_end tt))

pub line_short : (base : List ℕ) (r : Read) → Short (line base r)
line_short base r = short_part (line_part base r).good (line_part base r).full

file_tail : (base : List ℕ) → Tail (parameter_file base) (Not is_word)
file_tail base = tail_then (tail_loop None refl (line_part base) (λ n h. tt) (λ n h. h))
    (λ r. tail_end None refl)

pub parameter_file_good : (base : List ℕ) → Good (parameter_file base) (Not is_word)
parameter_file_good base = (file_tail base).good
