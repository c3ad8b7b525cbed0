-- The thorn list is read as its grammar derives it.
use Rattle.std.proofs.Common.{[], ◌∷◌, None, refl}
use Rattle.cx_text.specs.Tokens.{is_word}
use Rattle.cx_conf.specs.declared.thorn_list.Places.{Places}
use Rattle.cx_conf.specs.Thorns.{place_of, line, thorn_list}
use Rattle.cx_text.proofs.Laws.{Means}
use Rattle.cx_text.proofs.Loops.{Short}
use Rattle.cx_text.proofs.RuleLaws.{Good, Part, Tail, Any, Not, short_part, token_then, token_last, a_line_end, tail_loop, tail_then, tail_end}
use Rattle.cx_text.proofs.LexemeLaws.{a_word}

abbrev a_place : Means place_of
a_place = record { tok = a_word (97 ∷ 47 ∷ 98 ∷ []); x = (97 ∷ [], 98 ∷ []); is = refl }

line_part : (s : Places) → Part (line s) Any Any
line_part s = token_then a_place tt (λ p. token_last {F = Any} {H = Any} a_line_end tt)

pub line_short : (s : Places) → Short (line s)
line_short s = short_part (line_part s).good (line_part s).full

file_tail : Tail thorn_list (Not is_word)
file_tail = tail_then (tail_loop None refl line_part (λ n h. tt) (λ n h. h))
    (λ s. tail_end None refl)

pub thorn_list_good : Good thorn_list (Not is_word)
thorn_list_good = file_tail.good
