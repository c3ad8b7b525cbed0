-- The steer file is read as its grammar derives it.
use Rattle.std.proofs.Common.{ℕ, [], ◌∷◌, None, refl}
use Rattle.cx_text.specs.Tokens.{is_word}
use Rattle.cx_parfile.specs.declared.reader.Name.{Name}
use Rattle.cx_parfile.specs.declared.steer.ReadSteers.{ReadSteers}
use Rattle.cx_parfile.specs.ParFile.{bracketed}
use Rattle.cx_parfile.specs.SteerFile.{iteration_of, plain_value, steered, steer_line, steer_file}
use Rattle.cx_parfile.proofs.ParLaws.{a_name, bracketed_part, NoBracket}
use Rattle.cx_text.proofs.Laws.{Means}
use Rattle.cx_text.proofs.Loops.{Short}
use Rattle.cx_text.proofs.RuleLaws.{Good, Part, Any, Not, short_part, token_then, token_last, a_line_end, tail_loop, tail_then, tail_end, Tail, empty_then, option_good, option_empty, weaker_good, part_then}
use Rattle.cx_text.proofs.LexemeLaws.{a_word, sign_is}

abbrev an_iteration : Means iteration_of
an_iteration = record { tok = a_word (64 ∷ 49 ∷ []); x = 1; is = refl }

abbrev a_plain_value : Means plain_value
a_plain_value = record { tok = a_word (97 ∷ []); x = 97 ∷ []; is = refl }

steered_part : (at : ℕ) (n : Name) → Part (steered at n) NoBracket Any
steered_part at n =
    empty_then {G = NoBracket}
    (option_good (weaker_good bracketed_part.good (λ m h. tt)) bracketed_part.full (λ m h. h))
    (option_empty bracketed None) (λ m h. (h, h))
    (λ i. token_then (sign_is 61 refl) refl (λ u. token_last {F = Any} a_plain_value tt))

line_part : (r : ReadSteers) → Part (steer_line r) Any Any
line_part r =
    token_then {G = Any} an_iteration tt
    (λ n. token_then {G = NoBracket} a_name tt
    (λ name. part_then {G = Any} None tt (steered_part n name)
    (λ l. token_last {F = Any} a_line_end tt)))

pub line_short : (r : ReadSteers) → Short (steer_line r)
line_short r = short_part (line_part r).good (line_part r).full

file_tail : Tail steer_file (Not is_word)
file_tail = tail_then (tail_loop None refl line_part (λ n h. tt) (λ n h. h))
    (λ r. tail_end None refl)

pub steer_file_good : Good steer_file (Not is_word)
steer_file_good = file_tail.good
