-- Defaults are read as their grammar derives them.
use Rattle.std.proofs.Common.{ℕ, List, [], ◌∷◌, Option, None, refl}
use Rattle.cx_text.specs.declared.token.Token.{Token}
use Rattle.cx_text.specs.Tokens.{is_word}
use Rattle.cx_text.specs.Rules.{is_sign}
use Rattle.cx_text.specs.Lexemes.{is_quoted, in_line}
use Rattle.cx_param.specs.declared.declarations.PType.{PType}
use Rattle.cx_param.specs.declared.declarations.PType.TheVariants.{Boolean, Int, Keyword, String, Real}
use Rattle.cx_param.specs.Numbers.{begins_number}
use Rattle.cx_param.specs.Defaults.{plain_default, printed_of, more_printed, real_default, default_of, unused_default}
use Rattle.cx_text.proofs.Laws.{Means}
use Rattle.cx_text.proofs.Loops.{Short}
use Rattle.cx_text.proofs.RuleLaws.{Good, Full, Part, Tail, Any, Not, short_part, before_part, weaker_part, part_choice, part_end, tail_option, tail_choice, token_good, token_is_full, nothing_good, nothing_ends, fits_any, also_good, also_is_full, token_then, empty_then, loop_good, loop_empty, lexeme_last, lexeme_alone, a_line_end}
use Rattle.cx_text.proofs.LexemeLaws.{a_word, a_name, a_quoted, Ended}
use Rattle.cx_param.proofs.NumberLaws.{number_part, number_text_part}

-- what begins a number without a sign, and no other default
record FirstDigits (n : Option Token) : Type 0 where
  quoted : Not is_quoted n
  word : Not is_word n
  minus : Not (is_sign 45) n
  ended : Ended n

plain_part : Part plain_default Ended Ended
plain_part =
    weaker_part {F = FirstDigits} (part_choice (lexeme_alone {F = Any} a_quoted tt)
    (part_choice (lexeme_alone {F = Any} a_name tt)
    (number_text_part (record { quoted = refl; word = refl; minus = refl; ended = refl })
    (λ n h. h.minus)) (λ n h. h.word))
    (λ n h. h.quoted))
    (λ n h. h.ended)

abbrev a_printed : Means printed_of
a_printed = record { tok = a_word (97 ∷ []); x = 97 ∷ []; is = refl }

more_printed_good : (text : List ℕ) → Good (more_printed text) Any
more_printed_good text =
    also_good (token_good a_printed) (λ t. nothing_good) (fits_any (λ x next h. nothing_ends tt))

more_printed_full : (text : List ℕ) → Full (more_printed text)
more_printed_full text = also_is_full _ token_is_full

pub more_printed_short : (text : List ℕ) → Short (more_printed text)
more_printed_short text = short_part (more_printed_good text) (more_printed_full text)

real_part : Part real_default Ended Ended
real_part =
    token_then {G = Not in_line} a_printed refl (λ t.
    empty_then {G = Not in_line}
    (loop_good {G = Any} more_printed_good more_printed_full (λ n h. h) (λ n h. tt) None refl)
    (loop_empty more_printed t) (λ n h. (h, h))
    (λ text. lexeme_last a_line_end refl))

pub default_part : (p : PType) → Part (default_of p) Ended Ended
default_part Real = real_part
default_part Boolean = plain_part
default_part Int = plain_part
default_part Keyword = plain_part
default_part String = plain_part

pub unused_tail : {H : Option Token → Type 0} (one : Option Token) → H one
    → ((n : Option Token) → H n → Not is_quoted n)
    → ((n : Option Token) → H n → Not begins_number n) → ((n : Option Token) → H n → Ended n)
    → Tail unused_default H
unused_tail one h quoted number ended =
    tail_choice (before_part (lexeme_last {F = Any} a_quoted tt) ended)
    (tail_option one h (part_end None refl (number_part {F = Not (is_sign 45)} refl (λ n k. k)))
    ended number)
    quoted
