-- Attributes are read as they derive.
use Rattle.std.proofs.Common.{◌≡◌, Bool, List, ◌∷◌, [], Option, Some, None, refl}
use Rattle.cx_text.specs.declared.stop.Mark.{Mark}
use Rattle.cx_text.specs.declared.token.Token.{Token}
use Rattle.cx_text.specs.Rules.{is_sign, is_named}
use Rattle.cx_text.specs.Lexemes.{is_quoted, kept_if}
use Rattle.cx_text.proofs.Laws.{Means}
use Rattle.cx_text.proofs.Loops.{Short}
use Rattle.cx_text.proofs.RuleLaws.{Part, Not, short_part, weaker_part, before_part, lexeme_then, lexeme_last, part_then, part_end, part_choice, part_loop}
use Rattle.cx_text.proofs.LexemeLaws.{a_word, a_sign, a_number, a_quoted, keyword_is, sign_is, Ended}
use Rattle.cx_iface.specs.declared.tree.GType.TheVariants.{Gf}
use Rattle.cx_iface.specs.declared.attributes.Attributes.{Attributes}
use Rattle.cx_iface.specs.Words.{TYPE, DIM, TIMELEVELS, DISTRIB, SIZE, GHOSTSIZE, TAGS, gtype_of}
use Rattle.cx_iface.specs.Attributes.{keep, is_distribution, is_size, more_sizes, sizes, type_, dim, levels, distrib, size, ghostsize, tags, effective, idle, attribute}

-- this token comes next
abbrev pub Is : Token → Option Token → Type 0
Is t n = n ≡ Some t

abbrev kept_is : (test : Token → Bool) (t : Token) → kept_if test t ≡ Some (record t { line = 0 })
    → Means (kept_if test)
kept_is test t e = record { tok = t; x = record t { line = 0 }; is = e }

abbrev a_gf : Means gtype_of
a_gf = record { tok = a_word (71 ∷ 70 ∷ []); x = Gf; is = refl }

abbrev a_default : Token
a_default = a_word (68 ∷ 69 ∷ 70 ∷ 65 ∷ 85 ∷ 76 ∷ 84 ∷ [])

keep_part : (test : Token → Bool) (mark : Token → Option Mark) (ts : List Token)
    (one : Means (kept_if test)) → Part (keep test mark ts) (Is one.tok) Ended
keep_part test mark ts one = lexeme_last one refl

more_sizes_part : (ts : List Token) → Part (more_sizes ts) (Is (a_sign 44)) Ended
more_sizes_part ts = part_then {G = Ended} (Some a_number.tok) refl
    (keep_part _ _ ts (kept_is (is_sign 44) (a_sign 44) refl))
    (λ us. weaker_part (keep_part _ _ us (kept_is is_size a_number.tok refl)) (λ n h. rw h refl))

pub more_sizes_short : (ts : List Token) → Short (more_sizes ts)
more_sizes_short ts = short_part (more_sizes_part ts).good (more_sizes_part ts).full

-- what follows an attribute
abbrev pub AfterAttribute : Option Token → Type 0
AfterAttribute n = Not (is_sign 44) n × Ended n

sizes_part : (ts : List Token) → Part (sizes ts) (Is a_number.tok) AfterAttribute
sizes_part ts = part_loop {G = Ended} (keep_part _ _ ts (kept_is is_size a_number.tok refl))
    (λ us. (more_sizes_part us).good) (λ us. (more_sizes_part us).full) (λ n h. h.0) (λ n h. h.1)
    None (refl, refl)

pub type_part : (a : Attributes) → Part (type_ a) (Is (a_word TYPE)) AfterAttribute
type_part a = before_part
    (lexeme_then (keyword_is TYPE refl) refl
    (λ u. lexeme_then (sign_is 61 refl) refl (λ v. lexeme_last {F = Ended} a_gf refl))) (λ n h. h.1)

dim_part : (a : Attributes) → Part (dim a) (Is (a_word DIM)) AfterAttribute
dim_part a = before_part
    (lexeme_then (keyword_is DIM refl) refl
    (λ u. lexeme_then (sign_is 61 refl) refl (λ v. lexeme_last {F = Ended} a_number refl)))
    (λ n h. h.1)

levels_part : (a : Attributes) → Part (levels a) (Is (a_word TIMELEVELS)) AfterAttribute
levels_part a = before_part
    (lexeme_then (keyword_is TIMELEVELS refl) refl
    (λ u. lexeme_then (sign_is 61 refl) refl (λ v. lexeme_last {F = Ended} a_number refl)))
    (λ n h. h.1)

distrib_part : (a : Attributes) → Part (distrib a) (Is (a_word DISTRIB)) AfterAttribute
distrib_part a = before_part
    (part_then {G = Ended} (Some (a_sign 61)) refl
    (keep_part _ _ a.rest (kept_is (is_named DISTRIB) (a_word DISTRIB) refl)) (λ ts.
    part_then {G = Ended} (Some a_default) refl
    (weaker_part (keep_part _ _ ts (kept_is (is_sign 61) (a_sign 61) refl)) (λ n h. rw h refl))
    (λ us.
    part_end None refl (weaker_part (keep_part _ _ us (kept_is is_distribution a_default refl))
    (λ n h. rw h refl)))))
    (λ n h. h.1)

tags_part : (a : Attributes) → Part (tags a) (Is (a_word TAGS)) AfterAttribute
tags_part a = before_part
    (part_then {G = Ended} (Some (a_sign 61)) refl
    (keep_part _ _ a.rest (kept_is (is_named TAGS) (a_word TAGS) refl)) (λ ts.
    part_then {G = Ended} (Some a_quoted.tok) refl
    (weaker_part (keep_part _ _ ts (kept_is (is_sign 61) (a_sign 61) refl)) (λ n h. rw h refl))
    (λ us.
    part_end None refl (weaker_part (keep_part _ _ us (kept_is is_quoted a_quoted.tok refl))
    (λ n h. rw h refl)))))
    (λ n h. h.1)

size_part : (a : Attributes) → Part (size a) (Is (a_word SIZE)) AfterAttribute
size_part a =
    part_then {G = Ended} (Some (a_sign 61)) refl
    (keep_part _ _ a.rest (kept_is (is_named SIZE) (a_word SIZE) refl)) (λ ts.
    part_then {G = Ended} (Some a_number.tok) refl
    (weaker_part (keep_part _ _ ts (kept_is (is_sign 61) (a_sign 61) refl)) (λ n h. rw h refl))
    (λ us.
    part_end None (refl, refl) (weaker_part (sizes_part us) (λ n h. rw h refl))))

ghostsize_part : (a : Attributes) → Part (ghostsize a) (Is (a_word GHOSTSIZE)) AfterAttribute
ghostsize_part a =
    part_then {G = Ended} (Some (a_sign 61)) refl
    (keep_part _ _ a.rest (kept_is (is_named GHOSTSIZE) (a_word GHOSTSIZE) refl)) (λ ts.
    part_then {G = Ended} (Some a_number.tok) refl
    (weaker_part (keep_part _ _ ts (kept_is (is_sign 61) (a_sign 61) refl)) (λ n h. rw h refl))
    (λ us.
    part_end None (refl, refl) (weaker_part (sizes_part us) (λ n h. rw h refl))))

effective_part : (a : Attributes) → Part (effective a) (Is (a_word TIMELEVELS)) AfterAttribute
effective_part a = part_choice (type_part a)
    (part_choice (dim_part a) (levels_part a) (λ n h. rw h refl)) (λ n h. rw h refl)

idle_part : (a : Attributes) → Part (idle a) (Is (a_word TAGS)) AfterAttribute
idle_part a = part_choice (distrib_part a)
    (part_choice (size_part a) (part_choice (ghostsize_part a) (tags_part a) (λ n h. rw h refl))
    (λ n h. rw h refl)) (λ n h. rw h refl)

pub attribute_part : (a : Attributes) → Part (attribute a) (Is (a_word TAGS)) AfterAttribute
attribute_part a = part_choice (effective_part a) (idle_part a) (λ n h. rw h refl)

pub attribute_short : (a : Attributes) → Short (attribute a)
attribute_short a = short_part (attribute_part a).good (attribute_part a).full
