-- The configuration file is read as its grammar derives it.
use Rattle.std.proofs.Common.{ℕ, Option, Some, None, refl}
use Rattle.cx_text.specs.declared.token.Token.{Token}
use Rattle.cx_text.specs.Rules.{is_named}
use Rattle.cx_conf.specs.declared.configuration.Configuration.{Configuration}
use Rattle.cx_conf.specs.declared.configuration.Read.{Read}
use Rattle.cx_conf.specs.Conf.{PROVIDES, OPTIONAL, REQUIRES, THORNS, provides, optional, thorns, capabilities, requires_, is_entry, entry, more, configuration}
use Rattle.cx_text.proofs.Loops.{Short}
use Rattle.cx_text.proofs.RuleLaws.{Good, Part, Any, Not, short_part, weaker_part, lexeme_then, lexeme_last, token_then, empty_then, part_then, part_end, part_choice, a_line_end, tail_loop, tail_then, tail_end, Tail}
use Rattle.cx_text.proofs.LexemeLaws.{a_word, a_name, keyword_is, sign_is, Ended, names_good, names_empty, some_names_part, braces_part, line_ends_tail}

provides_part : (left : ℕ) (c : Configuration) {F : Option Token → Type 0}
    → F (Some (a_word PROVIDES)) → Part (provides left c) F Ended
provides_part left c f =
    lexeme_then (keyword_is PROVIDES refl) f
    (λ u. lexeme_then a_name refl (λ n. part_end None refl (braces_part refl)))

optional_part : (left : ℕ) (c : Configuration) {F : Option Token → Type 0}
    → F (Some (a_word OPTIONAL)) → Part (optional left c) F Ended
optional_part left c f =
    lexeme_then (keyword_is OPTIONAL refl) f
    (λ u. lexeme_then a_name refl (λ n. part_end None refl (braces_part refl)))

thorns_part : (c : Configuration) {F : Option Token → Type 0} → F (Some (a_word THORNS))
    → Part (thorns c) F Ended
thorns_part c f = lexeme_then (keyword_is THORNS refl) f
    (λ u. token_then (sign_is 58 refl) refl
    (λ v. empty_then (names_good c.thorns) (names_empty c.thorns) (λ n k. (k, k))
    (λ ns. lexeme_last a_line_end refl)))

capabilities_part : (c : Configuration) {F : Option Token → Type 0} → F (Some a_name.tok)
    → Part (capabilities c) F Ended
capabilities_part c f = part_then None refl (some_names_part c.requires_ f)
    (λ ns. lexeme_last a_line_end refl)

requires_part : (left : ℕ) (c : Configuration) {F : Option Token → Type 0}
    → F (Some (a_word REQUIRES)) → Part (requires_ left c) F Ended
requires_part left c f = lexeme_then (keyword_is REQUIRES refl) f (λ u.
    weaker_part {F = λ n. Not (is_named THORNS) n × Ended n}
    (part_choice (thorns_part c {F = Any} tt) (capabilities_part c (refl, refl)) (λ n h. h.0))
    (λ n h. h.1))

entry_part : (left : ℕ) (c : Configuration) → Part (entry left c) Ended Ended
entry_part left c =
    weaker_part {F = λ n. Not (is_named OPTIONAL) n × Not (is_named PROVIDES) n × Ended n}
    (part_choice (provides_part left c {F = Any} tt)
    (part_choice (optional_part left c {F = Any} tt) (requires_part left c (refl, refl, refl))
    (λ n h. h.0)) (λ n h. h.1))
    (λ n h. h.2)

more_part : (s : Read) → Part (more s) Ended Ended
more_part s = part_end None refl (entry_part s.left s.tree)

pub more_short : (s : Read) → Short (more s)
more_short s = short_part (more_part s).good (more_part s).full

abbrev pub AfterEntries : Option Token → Type 0
AfterEntries n = Not is_entry n × Ended n

file_tail : Tail configuration AfterEntries
file_tail = tail_then (line_ends_tail None (refl, refl) (λ n h. h.1))
    (λ u. tail_then (tail_loop None (refl, refl) more_part (λ n h. h.1) (λ n h. h.0))
    (λ s. tail_end None (refl, refl)))

pub configuration_good : Good configuration AfterEntries
configuration_good = file_tail.good
