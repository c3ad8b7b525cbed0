-- Blocks are read as their grammar derives them.
use Rattle.std.proofs.Common.{ℕ, Bool, true, false, List, Option, Some, None, refl}
use Rattle.cx_text.specs.declared.token.Token.{Token}
use Rattle.cx_text.specs.Tokens.{is_word}
use Rattle.cx_text.specs.Rules.{is_sign, is_named}
use Rattle.cx_text.specs.Lexemes.{same_name, is_quoted}
use Rattle.cx_sched.specs.declared.block.Clauses.{Clauses}
use Rattle.cx_sched.specs.Words.{SCHEDULE, GROUP, AT, AS, IF, WHILE, BEFORE, AFTER}
use Rattle.cx_sched.specs.Blocks.{is_way, way_of, is_way_name, placed, place, group_place, either, behind_group, behind_name, head, no_clauses, names_in_parens, name_list, alias, tested, turning, before, after, is_clause, clause, block}
use Rattle.cx_text.proofs.Laws.{Means}
use Rattle.cx_text.proofs.Loops.{Short}
use Rattle.cx_text.proofs.RuleLaws.{Part, Any, Not, before_part, weaker_part, short_part, lexeme_then, lexeme_last, lexeme_alone, loop_good, loop_empty, empty_then, part_then, part_choice, part_end, part_then_tail, tail_then, tail_option, tail_end}
use Rattle.cx_text.proofs.LexemeLaws.{a_word, a_sign, a_name, a_quoted, keyword_is, sign_is, Ended, listed_part}
use Rattle.cx_sched.proofs.RefLaws.{AfterName, name_end, reference_part}
use Rattle.cx_sched.proofs.LineLaws.{lines_part}

-- ---- the head

abbrev a_way : Means way_of
a_way = record { tok = a_word AT; x = AT; is = refl }

-- what follows a head
abbrev AfterHead : Option Token → Type 0
AfterHead n = Not is_word n × Ended n

placed_part : (group : Bool) (n : List ℕ) {F : Option Token → Type 0} → F (Some (a_word AT))
    → Part (placed group n) F AfterHead
placed_part group n f = before_part (lexeme_then a_way f (λ w. lexeme_last a_name refl))
    (λ k h. h.1)

place_part : (g w : List ℕ) {F : Option Token → Type 0} → F (Some a_name.tok)
    → Part (place g w) F AfterHead
place_part g w f = before_part (lexeme_last a_name f) (λ k h. h.1)

group_place_part : (n w : List ℕ) {F : Option Token → Type 0} → F (Some a_name.tok)
    → Part (group_place n w) F AfterHead
group_place_part n w f = before_part (lexeme_last a_name f) (λ k h. h.1)

either_part : (g n : List ℕ) {F : Option Token → Type 0} → F (Some (a_word AT))
    → Part (either g n) F AfterHead
either_part g n f = part_then_tail (lexeme_alone a_way f) (λ k h. h.1) None (refl, refl)
    (λ w. tail_option None (refl, refl) (group_place_part n w {F = Any} tt) (λ k h. h) (λ k h. h.0))

behind_group_part : (is_way_ : Bool) (g n : List ℕ)
    → Part (behind_group is_way_ g n) Ended AfterHead
behind_group_part true g n =
    weaker_part {F = λ k. Not is_way k × Ended k}
    (part_choice (either_part g n {F = Any} tt) (place_part g n (refl, refl)) (λ k h. h.0))
    (λ k h. h.1)
behind_group_part false g n = placed_part true n refl

behind_name_part : (is_group : Bool) (n : List ℕ) → Part (behind_name is_group n) Ended AfterHead
behind_name_part true g = lexeme_then a_name refl (λ n. behind_group_part (is_way_name n) g n)
behind_name_part false n = placed_part false n refl

head_part : Part head Ended AfterHead
head_part = lexeme_then a_name refl (λ n. behind_name_part (same_name n GROUP) n)

-- ---- clauses

names_in_parens_part : (ns : List (List ℕ)) {F : Option Token → Type 0} → F (Some (a_sign 40))
    → Part (names_in_parens ns) F Ended
names_in_parens_part ns f =
    lexeme_then (sign_is 40 refl) f
    (λ u. part_then (Some (a_sign 41)) (refl, refl) (listed_part ns refl)
    (λ ms. lexeme_last (sign_is 41 refl) (refl, refl)))

name_list_part : (ns : List (List ℕ)) → Part (name_list ns) Ended AfterName
name_list_part ns = before_part
    (weaker_part {F = λ k. Not (is_sign 40) k × Ended k}
    (part_choice (names_in_parens_part ns {F = Any} tt) (lexeme_last a_name (refl, refl))
    (λ k h. h.0)) (λ k h. h.1)) (λ k h. h.ended)

alias_part : (c : Clauses) {F : Option Token → Type 0} → F (Some (a_word AS))
    → Part (alias c) F AfterName
alias_part c f = before_part (lexeme_then (keyword_is AS refl) f (λ u. lexeme_last a_name refl))
    (λ k h. h.ended)

tested_part : (c : Clauses) {F : Option Token → Type 0} → F (Some (a_word IF))
    → Part (tested c) F AfterName
tested_part c f = lexeme_then (keyword_is IF refl) f
    (λ u. part_end None name_end (reference_part refl))

turning_part : (c : Clauses) {F : Option Token → Type 0} → F (Some (a_word WHILE))
    → Part (turning c) F AfterName
turning_part c f = lexeme_then (keyword_is WHILE refl) f
    (λ u. part_end None name_end (reference_part refl))

before_clause_part : (c : Clauses) {F : Option Token → Type 0} → F (Some (a_word BEFORE))
    → Part (before c) F AfterName
before_clause_part c f =
    lexeme_then (keyword_is BEFORE refl) f (λ u. part_end None name_end (name_list_part c.before))

after_clause_part : (c : Clauses) {F : Option Token → Type 0} → F (Some (a_word AFTER))
    → Part (after c) F AfterName
after_clause_part c f = lexeme_then (keyword_is AFTER refl) f
    (λ u. part_end None name_end (name_list_part c.after))

-- the first token of the last clause
record Last (n : Option Token) : Type 0 where
  as_ : Not (is_named AS) n
  if_ : Not (is_named IF) n
  while_ : Not (is_named WHILE) n
  before_ : Not (is_named BEFORE) n
  ended : Ended n

pub clause_part : (c : Clauses) → Part (clause c) Ended AfterName
clause_part c =
    weaker_part {F = Last}
    (part_choice (alias_part c {F = Any} tt)
    (part_choice (tested_part c {F = Any} tt)
    (part_choice (turning_part c {F = Any} tt)
    (part_choice (before_clause_part c {F = Any} tt)
    (after_clause_part c
    (record { as_ = refl; if_ = refl; while_ = refl; before_ = refl; ended = refl }))
    (λ n h. h.before_))
    (λ n h. h.while_)) (λ n h. h.if_)) (λ n h. h.as_)) (λ n h. h.ended)

pub clause_short : (c : Clauses) → Short (clause c)
clause_short c = short_part (clause_part c).good (clause_part c).full

-- ---- blocks

-- what follows a block
abbrev pub AfterBlock : Option Token → Type 0
AfterBlock n = Not is_quoted n × Ended n

-- what follows the clauses of a block
record AfterClauses (n : Option Token) : Type 0 where
  clause : Not is_clause n
  name : AfterName n

record BeforeLines (n : Option Token) : Type 0 where
  word : Not is_word n
  clauses : AfterClauses n

an_open : BeforeLines (Some (a_sign 123))
an_open = record {
  word = refl;
  clauses = record { clause = refl; name = record { pair = refl; ended = refl } };
}

pub block_part : (full : Bool) (left : ℕ) {F : Option Token → Type 0} → F (Some (a_word SCHEDULE))
    → Part (block full left) F AfterBlock
block_part full left f =
    lexeme_then (keyword_is SCHEDULE refl) f (λ u.
    part_then (Some (a_sign 123)) (refl, refl) head_part (λ h.
    weaker_part {F = BeforeLines}
    (empty_then {G = AfterClauses}
    (loop_good (λ c. (clause_part c).good) (λ c. (clause_part c).full) (λ n k. k.clause)
    (λ n k. k.name) None (record { clause = refl; name = name_end }))
    (loop_empty clause no_clauses) (λ n k. (k.clauses, k.clauses.clause)) (λ c.
    part_then_tail (lines_part left an_open) (λ n k. k.1) None (refl, refl) (λ l.
    tail_then (tail_option None (refl, refl) (lexeme_alone {F = Any} a_quoted tt) (λ n k. k.1)
    (λ n k. k.0)) (λ t.
    tail_end None (refl, refl)))))
    (λ n k. (k.word, k.clauses.name.ended))))
