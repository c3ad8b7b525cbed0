-- What stands before a block is read as its grammar derives it.
use Rattle.std.proofs.Common.{codes, Option, Some, None, refl}
use Rattle.cx_text.specs.declared.token.Token.{Token}
use Rattle.cx_text.specs.Rules.{is_sign, is_named}
use Rattle.cx_text.specs.Lexemes.{is_quoted}
use Rattle.cx_param.specs.declared.declarations.PType.TheVariants.{Int}
use Rattle.cx_param.specs.declared.declarations.Steer.TheVariants.{Never}
use Rattle.cx_param.specs.Headings.{ptype_of, steer_of, in_brackets, comment, other_name, steered, heading}
use Rattle.cx_text.proofs.Laws.{Means}
use Rattle.cx_text.proofs.RuleLaws.{Part, Tail, Any, Not, part_then_tail, tail_then, tail_option, tail_end, lexeme_then, lexeme_last, lexeme_alone}
use Rattle.cx_text.proofs.LexemeLaws.{a_word, a_name, a_number, a_quoted, keyword_is, sign_is, Ended}

abbrev pub a_ptype : Means ptype_of
a_ptype = record { tok = a_word (codes "INT"); x = Int; is = refl }

abbrev a_steer : Means steer_of
a_steer = record { tok = a_word (codes "NEVER"); x = Never; is = refl }

-- before which each option can be left out
pub record AfterHeading (n : Option Token) : Type 0 where
  pub length : Not (is_sign 91) n
  pub quoted : Not is_quoted n
  pub alias : Not (is_named (codes "AS")) n
  pub steer : Not (is_named (codes "STEERABLE")) n
  pub ended : Ended n

pub nothing_follows : AfterHeading None
nothing_follows = record { length = refl; quoted = refl; alias = refl; steer = refl; ended = refl }

in_brackets_part : Part in_brackets Any Ended
in_brackets_part = lexeme_then (sign_is 91 refl) tt
    (λ u. lexeme_then a_number refl (λ n. lexeme_last (sign_is 93 refl) refl))

other_name_part : Part other_name Any Ended
other_name_part = lexeme_then (keyword_is (codes "AS") refl) tt (λ u. lexeme_last a_name refl)

steered_part : Part steered Any Ended
steered_part = lexeme_then (keyword_is (codes "STEERABLE") refl) tt
    (λ u. lexeme_then (sign_is 61 refl) refl (λ v. lexeme_alone a_steer refl))

comment_part : Tail comment AfterHeading
comment_part = tail_option {F = Any} None nothing_follows (lexeme_last a_quoted tt) (λ n h. h.ended)
    (λ n h. h.quoted)

pub heading_part : {F : Option Token → Type 0} → F (Some a_name.tok) → Part heading F AfterHeading
heading_part f =
    part_then_tail (lexeme_alone a_name f) (λ n h. h.ended) None nothing_follows (λ n.
    tail_then (tail_option None nothing_follows in_brackets_part (λ n h. h.ended) (λ n h. h.length))
    (λ l.
    tail_then comment_part (λ u.
    tail_then (tail_option None nothing_follows other_name_part (λ n h. h.ended) (λ n h. h.alias))
    (λ a.
    tail_then (tail_option None nothing_follows steered_part (λ n h. h.ended) (λ n h. h.steer))
    (λ s.
    tail_end None nothing_follows)))))
