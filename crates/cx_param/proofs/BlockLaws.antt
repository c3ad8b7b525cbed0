-- Blocks are read as their grammar derives them.
use Rattle.std.proofs.Common.{true, List, [], ◌∷◌, Option, Some, None, is_none, refl}
use Rattle.cx_text.specs.declared.token.Token.{Token}
use Rattle.cx_text.specs.Rules.{is_sign}
use Rattle.cx_text.specs.Lexemes.{is_number, is_quoted, is_sign_pair, is_inside, kept_if, more_kept}
use Rattle.cx_param.specs.declared.declarations.PType.{PType}
use Rattle.cx_param.specs.declared.declarations.PType.TheVariants.{Boolean, Int, Keyword, String, Real}
use Rattle.cx_param.specs.declared.ranges.Range.{Range}
use Rattle.cx_param.specs.Numbers.{begins_number}
use Rattle.cx_param.specs.Blocks.{Open, opened, begun, description, is_colon, is_bracket, is_close, is_end, bracket, close_bracket, end, bound, closing, closed, upper, is_step, stepped, next_span, further, uppers, behind_low, bracketed, from_low, from_colon, from_close, ints, is_ints, number_range, one_text, more_text, texts, number_block, text_block, kept_block, block}
use Rattle.cx_text.proofs.Laws.{Means}
use Rattle.cx_text.proofs.Loops.{Short}
use Rattle.cx_text.proofs.RuleLaws.{Part, Tail, Any, Not, short_part, before_part, weaker_part, part_choice, part_end, part_then_tail, tail_then, tail_option, tail_choice, tail_loop, tail_end, empty_then, lexeme_then, lexeme_last, lexeme_alone, token_then, loop_good, loop_empty}
use Rattle.cx_text.proofs.LexemeLaws.{a_word, a_sign, a_quoted, sign_is, sign_pair_is, Ended, or_right, and_right, more_kept_good, more_kept_full}
use Rattle.cx_param.proofs.NumberLaws.{a_one, number_part, step_part}

-- ---- what follows

-- before which each option can be left out
pub record AfterInts (n : Option Token) : Type 0 where
  pub end : Not is_end n
  pub colon : Not is_colon n
  pub close : Not is_close n
  pub described : Not (is_sign_pair 58 58) n
  pub ended : Ended n

at_end : AfterInts None
at_end = record { end = refl; colon = refl; close = refl; described = refl; ended = refl }

description_tail : {H : Option Token → Type 0} (one : Option Token) → H one
    → ((n : Option Token) → H n → Not (is_sign_pair 58 58) n) → ((n : Option Token) → H n → Ended n)
    → Tail description H
description_tail one h described ended =
    tail_option {F = Any} one h
    (lexeme_then (sign_pair_is 58 58 refl) tt (λ u. lexeme_last a_quoted refl)) ended described

-- ---- ranges of numbers

bracket_part : Part bracket (Not (is_sign 40)) Ended
bracket_part = part_choice {E = Any} (lexeme_last (sign_is 40 refl) tt)
    (lexeme_last (sign_is 91 refl) refl) (λ n h. h)

close_bracket_part : {F : Option Token → Type 0} → F (Some (a_sign 93))
    → ((n : Option Token) → F n → Not (is_sign 41) n) → Part close_bracket F Ended
close_bracket_part f other =
    part_choice {E = Any} (lexeme_last (sign_is 41 refl) tt) (lexeme_last (sign_is 93 refl) f) other

end_part : {F : Option Token → Type 0} → F (Some a_one)
    → ((n : Option Token) → F n → Not (is_sign 45) n)
    → ((n : Option Token) → F n → Not (is_sign 42) n) → Part end F Ended
end_part f minus star = part_choice {E = Any} (lexeme_last (sign_is 42 refl) tt)
    (part_end None refl (number_part f minus)) star

-- what neither `-` nor `*` begins
NoEnd : Option Token → Type 0
NoEnd n = Not (is_sign 45) n × Not (is_sign 42) n

any_end : Part end NoEnd Ended
unfolding NoEnd
any_end = end_part (refl, refl) (λ n h. h.0) (λ n h. h.1)

bound_tail : Tail bound AfterInts
bound_tail = tail_option None at_end any_end (λ n h. h.ended) (λ n h. h.end)

closing_tail : Tail closing AfterInts
closing_tail = tail_option None at_end (close_bracket_part {F = Not (is_sign 41)} refl (λ n h. h))
    (λ n h. h.ended) (λ n h. h.close)

closed_tail : (o : Open) → Tail (closed o) AfterInts
closed_tail o = tail_then closing_tail (λ i. tail_end None at_end)

upper_part : (o : Open) {F : Option Token → Type 0} → F (Some (a_sign 58))
    → Part (upper o) F AfterInts
upper_part o f = part_then_tail (lexeme_alone (sign_is 58 refl) f) (λ n h. h.ended) None at_end
    (λ u. tail_then bound_tail (λ high. tail_end None at_end))

next_tail : (o : Open) → Tail (next_span o) AfterInts
next_tail o = tail_then bound_tail (λ high. tail_end None at_end)

step_is_end : (o : Open) (n : Option Token) → Not is_end n → Not (is_step o.span) n
step_is_end o None h = refl
step_is_end o (Some t) h =
    and_right (is_none o.span.step) (is_number t)
    (or_right (is_sign 45 t) (is_number t) (or_right (is_sign 42 t) (begins_number t) h))

stepped_part : (o : Open) → Part (stepped o) Any AfterInts
stepped_part o = before_part (part_end None refl (step_part o.span.low)) (λ n h. h.ended)

pub further_part : (o : Open) → Part (further o) Any AfterInts
further_part o = part_then_tail (lexeme_alone (sign_is 58 refl) tt) (λ n h. h.ended) None at_end
    (λ u. tail_choice (stepped_part o) (next_tail o) (λ n h. step_is_end o n h.end))

pub further_short : (o : Open) → Short (further o)
further_short o = short_part (further_part o).good (further_part o).full

uppers_part : (o : Open) {F : Option Token → Type 0} → F (Some (a_sign 58))
    → Part (uppers o) F AfterInts
uppers_part o f = part_then_tail (upper_part o f) (λ n h. h) None at_end
    (λ p. tail_loop None at_end further_part (λ n h. h) (λ n h. h.colon))

behind_low_tail : (o : Open) → Tail (behind_low o) AfterInts
behind_low_tail o = tail_then
    (tail_option None at_end (uppers_part o {F = Any} tt) (λ n h. h) (λ n h. h.colon)) closed_tail

bracketed_part : (rs : List Range) → Part (bracketed rs) (Not (is_sign 40)) AfterInts
bracketed_part rs = part_then_tail bracket_part (λ n h. h.ended) None at_end
    (λ i. tail_then bound_tail (λ l. behind_low_tail (opened rs (begun l i))))

from_colon_part : (rs : List Range) → Part (from_colon rs) Any AfterInts
from_colon_part rs = part_then_tail (uppers_part (opened rs (begun None true)) tt) (λ n h. h)
    None at_end closed_tail

from_close_part : (rs : List Range) → Part (from_close rs) (Not (is_sign 41)) AfterInts
from_close_part rs = before_part (part_end None refl (close_bracket_part refl (λ n h. h)))
    (λ n h. h.ended)

-- what begins a low end, and none of the other ways to begin a range
record FirstEnd (n : Option Token) : Type 0 where
  minus : Not (is_sign 45) n
  star : Not (is_sign 42) n
  close : Not is_close n
  colon : Not is_colon n
  bracket : Not is_bracket n
  ended : Ended n

first_end : FirstEnd (Some a_one)
first_end = record {
  minus = refl;
  star = refl;
  close = refl;
  colon = refl;
  bracket = refl;
  ended = refl;
}

from_low_part : (rs : List Range) → Part (from_low rs) FirstEnd AfterInts
from_low_part rs = part_then_tail (end_part first_end (λ n h. h.minus) (λ n h. h.star))
    (λ n h. h.ended) None at_end (λ l. behind_low_tail (opened rs (begun l true)))

ints_part : (rs : List Range) → Part (ints rs) FirstEnd AfterInts
ints_part rs =
    part_choice (bracketed_part rs)
    (part_choice (from_colon_part rs)
    (part_choice (from_close_part rs) (from_low_part rs) (λ n h. h.close))
    (λ n h. h.colon))
    (λ n h. h.bracket)

number_range_part : (rs : List Range) → Part (number_range rs) Ended AfterInts
number_range_part rs = weaker_part
    (part_then_tail (ints_part rs) (λ n h. h) None at_end
    (λ ss. tail_then (description_tail None at_end (λ n h. h.described) (λ n h. h.ended))
    (λ u. tail_end None at_end))) (λ n h. h.ended)

pub number_range_short : (rs : List Range) → Short (number_range rs)
number_range_short rs = short_part (number_range_part rs).good (number_range_part rs).full

-- what follows the ranges of a block
record AfterRanges (n : Option Token) : Type 0 where
  ints : Not is_ints n
  after : AfterInts n

a_brace : AfterRanges (Some (a_sign 125))
a_brace = record {
  ints = refl;
  after = record { end = refl; colon = refl; close = refl; described = refl; ended = refl };
}

number_block_part : {F : Option Token → Type 0} → F (Some (a_sign 123)) → Part number_block F Ended
number_block_part f =
    lexeme_then (sign_is 123 refl) f (λ u.
    weaker_part {F = AfterRanges} (empty_then {G = AfterRanges}
    (loop_good (λ rs. (number_range_part rs).good) (λ rs. (number_range_part rs).full)
    (λ n h. h.ints) (λ n h. h.after) (Some (a_sign 125)) a_brace)
    (loop_empty number_range []) (λ n h. (h, h.ints))
    (λ rs. lexeme_last (sign_is 125 refl) a_brace))
    (λ n h. h.after.ended))

-- ---- ranges of texts

one_text_part : (p : PType) (rs : List Range) {F : Option Token → Type 0} → F (Some a_quoted.tok)
    → Part (one_text p rs) F Ended
one_text_part p rs f = lexeme_last a_quoted f

more_text_part : (p : PType) (rs : List Range) → Part (more_text p rs) Any Ended
more_text_part p rs = lexeme_then (sign_is 44 refl) tt (λ u. one_text_part p rs refl)

pub more_text_short : (p : PType) (rs : List Range) → Short (more_text p rs)
more_text_short p rs = short_part (more_text_part p rs).good (more_text_part p rs).full

-- what follows texts
record AfterTexts (n : Option Token) : Type 0 where
  comma : Not (is_sign 44) n
  described : Not (is_sign_pair 58 58) n
  ended : Ended n

no_text : AfterTexts None
no_text = record { comma = refl; described = refl; ended = refl }

texts_part : (p : PType) (rs : List Range) → Part (texts p rs) Ended AfterTexts
texts_part p rs =
    part_then_tail (one_text_part p rs refl) (λ n h. h.ended) None no_text (λ ss.
    tail_then (tail_loop None no_text (more_text_part p) (λ n h. h.ended) (λ n h. h.comma)) (λ qs.
    tail_then (description_tail None no_text (λ n h. h.described) (λ n h. h.ended))
    (λ u. tail_end None no_text)))

pub texts_short : (p : PType) (rs : List Range) → Short (texts p rs)
texts_short p rs = short_part (texts_part p rs).good (texts_part p rs).full

record AfterTextRanges (n : Option Token) : Type 0 where
  quoted : Not is_quoted n
  after : AfterTexts n

a_text_brace : AfterTextRanges (Some (a_sign 125))
a_text_brace = record {
  quoted = refl;
  after = record { comma = refl; described = refl; ended = refl };
}

text_block_part : (p : PType) {F : Option Token → Type 0} → F (Some (a_sign 123))
    → Part (text_block p) F Ended
text_block_part p f =
    lexeme_then (sign_is 123 refl) f (λ u.
    weaker_part {F = AfterTextRanges} (empty_then {G = AfterTextRanges}
    (loop_good (λ rs. (texts_part p rs).good) (λ rs. (texts_part p rs).full) (λ n h. h.quoted)
    (λ n h. h.after) (Some (a_sign 125)) a_text_brace)
    (loop_empty (texts p) []) (λ n h. (h, h.quoted))
    (λ rs. lexeme_last (sign_is 125 refl) a_text_brace))
    (λ n h. h.after.ended))

-- ---- blocks

abbrev pub an_inside : Means (kept_if is_inside)
an_inside = record { tok = a_word (97 ∷ []); x = a_word (97 ∷ []); is = refl }

kept_block_part : {F : Option Token → Type 0} → F (Some (a_sign 123)) → Part kept_block F Ended
kept_block_part f =
    token_then {G = Not is_inside} (sign_is 123 refl) f (λ u.
    empty_then {G = Not is_inside}
    (loop_good {G = Any} (more_kept_good is_inside an_inside) (more_kept_full is_inside) (λ n h. h)
    (λ n h. tt) (Some (a_sign 125)) refl)
    (loop_empty (more_kept is_inside) []) (λ n h. (h, h))
    (λ ts. lexeme_last (sign_is 125 refl) refl))

pub block_part : (p : PType) {F : Option Token → Type 0} → F (Some (a_sign 123))
    → Part (block p) F Ended
block_part Int f = number_block_part f
block_part Real f = kept_block_part f
block_part Boolean f = text_block_part Boolean f
block_part Keyword f = text_block_part Keyword f
block_part String f = text_block_part String f
