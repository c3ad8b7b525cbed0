-- Groups are read as they derive.
use Rattle.std.proofs.Common.{ℕ, Bool, List, [], ◌∷◌, Option, None, refl}
use Rattle.cx_text.specs.declared.ctype.CType.{CType}
use Rattle.cx_text.specs.declared.token.Token.{Token}
use Rattle.cx_text.specs.Tokens.{is_word}
use Rattle.cx_text.specs.Rules.{is_sign}
use Rattle.cx_text.specs.Lexemes.{is_quoted}
use Rattle.cx_text.proofs.Laws.{Means}
use Rattle.cx_text.proofs.Loops.{Short}
use Rattle.cx_text.proofs.RuleLaws.{Part, Any, Not, short_part, weaker_part, lexeme_then, lexeme_last, lexeme_alone, part_then_empty, loop_good, loop_empty, part_then_tail, tail_option, tail_loop, tail_then, tail_end, empty_then, option_good, option_empty, weaker_empty, line_ends_good, line_ends_empty}
use Rattle.cx_text.proofs.LexemeLaws.{a_name, a_number, a_quoted, sign_is, Ended, AfterListed, comma_then, not_second}
use Rattle.cx_iface.specs.declared.tree.Access.{Access}
use Rattle.cx_iface.specs.Attributes.{is_attribute}
use Rattle.cx_iface.specs.Groups.{group_name_of, copies, more_variables, variables, block, group}
use Rattle.cx_iface.proofs.AttributeLaws.{Is, attribute_part}

more_variables_part : (vs : List (List ℕ))
    → Part (more_variables vs) (λ n. Not (is_sign 44) n × Ended n) Ended
more_variables_part vs = comma_then (λ u. lexeme_last a_name (refl, refl))

pub more_variables_short : (vs : List (List ℕ)) → Short (more_variables vs)
more_variables_short vs = short_part (more_variables_part vs).good (more_variables_part vs).full

variables_part : Part variables Any AfterListed
variables_part = part_then_empty {G = Ended} None (refl, refl) (lexeme_alone a_name tt)
    (λ v. loop_good {G = Ended} (λ vs. (more_variables_part vs).good)
    (λ vs. (more_variables_part vs).full) (λ n h. h.0) (λ n h. h.1) None (refl, refl))
    (λ v. weaker_empty (loop_empty more_variables (v ∷ [])) (λ n h. h.0)) (λ n h. h.1)

no_word : (n : Option Token) → AfterListed n → Not is_word n
no_word n h = not_second (is_sign 44) is_word n h.0

-- what follows a group
pub record AfterGroup (n : Option Token) : Type 0 where
  pub copies : Not (is_sign 91) n
  pub attribute : Not is_attribute n
  pub comma : Not (is_sign 44) n
  pub quoted : Not is_quoted n
  pub block : Not (is_sign 123) n
  pub ended : Ended n

pub at_end : AfterGroup None
at_end = record {
  copies = refl;
  attribute = refl;
  comma = refl;
  quoted = refl;
  block = refl;
  ended = refl;
}

block_part : (s : List ℕ) → Part (block s) Any AfterGroup
block_part s = lexeme_then (sign_is 123 refl) tt (λ u.
    weaker_part {F = AfterListed}
    (empty_then {G = AfterListed} (option_good variables_part.good variables_part.full no_word)
    (weaker_empty (option_empty variables []) no_word) (λ n h. (h, h)) (λ vs.
    part_then_tail (lexeme_alone (sign_is 125 refl) (refl, refl)) (λ n h. h.ended) None at_end (λ v.
    tail_then (tail_option None at_end (lexeme_alone {F = Any} a_quoted tt) (λ n h. h.ended)
    (λ n h. h.quoted)) (λ t. tail_end None at_end)))) (λ n h. h.1))

abbrev pub a_group_name : Means group_name_of
a_group_name = record { tok = a_name.tok; x = a_name.x; is = refl }

copies_part : Part copies Any Ended
copies_part = lexeme_then (sign_is 91 refl) tt
    (λ u. lexeme_then a_number refl (λ n. lexeme_last (sign_is 93 refl) refl))

pub group_part : (access : Access) (ctype : CType) (full : Bool)
    → Part (group access ctype full) (Is a_name.tok) AfterGroup
group_part access ctype full =
    empty_then {K = Is a_name.tok} line_ends_good line_ends_empty (λ n h. (rw h refl, rw h refl))
    (λ u.
    part_then_tail (lexeme_alone a_group_name refl) (λ n h. h.ended) None at_end (λ name.
    tail_then (tail_option None at_end copies_part (λ n h. h.ended) (λ n h. h.copies)) (λ k.
    tail_then (tail_loop None at_end attribute_part (λ n h. (h.comma, h.ended))
    (λ n h. h.attribute)) (λ a.
    tail_then (tail_option None at_end (lexeme_alone {F = Any} a_quoted tt) (λ n h. h.ended)
    (λ n h. h.quoted)) (λ s.
    tail_then (tail_option None at_end (block_part s) (λ n h. h) (λ n h. h.block))
    (λ c. tail_end None at_end))))))
